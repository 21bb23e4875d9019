-- What contracts see of an element about which a rule may be asked.
use Rattle.std.specs.Prelude.{ℤ, Option, Some, None}
use Rattle.cow_model.specs.declared.plain.Literal.{Literal}
use Rattle.cow_model.specs.declared.plain.Literal.TheVariants.{Int, Text}

-- the integer that it is
abbrev pub integer : Literal → Option ℤ
integer (Int x) = Some x
integer (Text bytes) = None
