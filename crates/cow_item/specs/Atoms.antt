-- What contracts see of an atom.
use Rattle.std.specs.Prelude.{◌≡◌, false, ⊤}
use Rattle.cow_model.specs.declared.plain.Literal as plain
use Rattle.cow_model.specs.declared.plain.Literal.TheVariants as plain_is
use Rattle.cow_item.specs.declared.atom.Atom.{Atom}
use Rattle.cow_item.specs.declared.atom.Atom.TheVariants.{Int, Text}

-- its plain value
abbrev pub plain_of_atom : {Q : Type 0} → Atom Q → plain.Literal
plain_of_atom (Int x) = plain_is.Int x
plain_of_atom (Text t) = plain_is.Text t.value

-- no handle in it is alone
abbrev pub IsSettledAtom : {Q : Type 0} → Atom Q → Type 0
IsSettledAtom (Int x) = ⊤
IsSettledAtom (Text t) = t.alone ≡ false
