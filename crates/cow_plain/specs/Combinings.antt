-- What two sets are put together to.
use Rattle.std.specs.Prelude.{List}
use Rattle.cow_model.specs.Members as members
use Rattle.cow_model.specs.declared.plain.Literal.{Literal}
use Rattle.cow_plain.specs.declared.operation.together.Combining.{Combining}
use Rattle.cow_plain.specs.declared.operation.together.Combining.TheVariants.{Union, Inter, Minus, SymDiff}

-- the members of the result, where new ones are placed by `place`
abbrev pub combined : Combining → members.Placing → List Literal → List Literal → List Literal
combined Union = members.union
combined Inter = λ place. members.inter
combined Minus = λ place. members.minus
combined SymDiff = members.symdiff
