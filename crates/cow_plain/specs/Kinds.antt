-- What a value of a kind is made of.
use Rattle.std.specs.Prelude.{List}
use Rattle.cow_model.specs.declared.plain.Literal.{Literal}
use Rattle.cow_model.specs.declared.value.Pair.{Pair}
use Rattle.cow_model.specs.declared.value.Plain.{Plain}
use Rattle.cow_model.specs.declared.value.Plain.TheVariants as plain
use Rattle.cow_plain.specs.declared.operation.kinds.Listed.{Listed}
use Rattle.cow_plain.specs.declared.operation.kinds.Listed.TheVariants as listed
use Rattle.cow_plain.specs.declared.operation.kinds.Mapped.{Mapped}
use Rattle.cow_plain.specs.declared.operation.kinds.Mapped.TheVariants as mapped

-- the value of a list of atoms
abbrev pub of_items : Listed → List Literal → Plain
of_items listed.Array = plain.Array
of_items listed.Deque = plain.Deque
of_items listed.Set = plain.Set
of_items listed.OSet = plain.OSet
of_items listed.Heap = plain.Heap
of_items listed.TSet = plain.TSet

-- the value of a list of pairs
abbrev pub of_pairs : Mapped → List Pair → Plain
of_pairs mapped.Dict = plain.Dict
of_pairs mapped.ODict = plain.ODict
of_pairs mapped.TDict = plain.TDict
