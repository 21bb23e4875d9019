-- What is printed of atoms behind references.
use Rattle.std.specs.Prelude.{List, [], ◌∷◌, ◌++◌, map, codes}
use Rattle.std.specs.Borrow.{Bor}
use Rattle.cow_model.specs.Lexis.{Text}
use Rattle.std.specs.List.{flat_map}
use Rattle.cow_model.specs.Printed.{escaped, list_text, pairs_text, separated}
use Rattle.cow_model.specs.declared.plain.Literal.{Literal}
use Rattle.cow_model.specs.declared.value.Pair.{Pair}
use Rattle.cow_item.specs.declared.atom.Atom.{Atom}
use Rattle.cow_item.specs.Atoms.{plain_of_atom}

-- the plain value of an atom
abbrev pub plain_of : {Q : Type 0} → Bor (Atom Q) → Literal
plain_of a = plain_of_atom a.now

-- an atom as a key and an atom as its value
abbrev pub pair_of : {Q : Type 0} → Bor (Atom Q) × Bor (Atom Q) → Pair
pair_of p = record { key = plain_of p.0; value = plain_of p.1 }

-- texts with commas between them and brackets round them
abbrev pub bracketed : List Text → Text
bracketed texts = codes "[" ++ separated texts ++ codes "]"

-- bytes in quotes, in which `"` and `\` stand behind a `\`
abbrev pub quoted : Text → Text
quoted bytes = 34 ∷ [] ++ flat_map escaped bytes ++ 34 ∷ []

-- the printed form of a list of atoms
abbrev pub list_of : {Q : Type 0} → List (Bor (Atom Q)) → Text
list_of items = list_text (map plain_of items)

-- the printed form of keys and their values
abbrev pub pairs_of : {Q : Type 0} → List (Bor (Atom Q) × Bor (Atom Q)) → Text
pairs_of pairs = pairs_text (map pair_of pairs)
