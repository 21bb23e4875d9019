-- What contracts see of an ordered set, and which plain values are of its kind.
use Rattle.std.specs.Prelude.{Bool, true, false, List}
use Rattle.cow_model.specs.Flat.{Flat}
use Rattle.cow_model.specs.declared.plain.Literal.{Literal}
use Rattle.cow_model.specs.declared.value.Plain.{Plain}
use Rattle.cow_model.specs.declared.value.Plain.TheVariants.{OSet}
use Rattle.cow_value.specs.Seen.{Seen}

-- an ordered set
abbrev pub oset : Flat (List Literal) → Seen
oset s = record { value = OSet s.value; alone = s.alone; hidden = 0 }

-- its kind
abbrev pub is_oset : Plain → Bool
is_oset (OSet items) = true
is_oset value = false
