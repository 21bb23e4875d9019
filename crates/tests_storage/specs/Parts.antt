-- The plain value and the hash of the item that the tests make.
use Rattle.std.specs.Prelude.{ℕ, List, [], ◌∷◌, drop}
use Rattle.cow_model.specs.Hash.{fnv}
use Rattle.cow_model.specs.declared.plain.Literal.{Literal}
use Rattle.cow_model.specs.declared.plain.Literal.TheVariants.{Int, Text}

-- its two numbers, and then the bytes of its name
abbrev pub plain_of_part : ℕ → ℕ → List ℕ → Literal
plain_of_part size colour name = Text (size ∷ colour ∷ name)

-- the bytes of its name
abbrev pub name_of : Literal → List ℕ
name_of (Int x) = []
name_of (Text numbers) = drop 2 numbers

-- the hash of the name alone
abbrev pub part_hash : Literal → ℕ
part_hash part = fnv (name_of part)
