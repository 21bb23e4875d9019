-- What contracts see of a set, and which plain values are of its kind.
use Rattle.std.specs.Prelude.{Bool, true, false, List}
use Rattle.cow_model.specs.Flat.{Flat}
use Rattle.cow_model.specs.declared.plain.Literal.{Literal}
use Rattle.cow_model.specs.declared.value.Plain.{Plain}
use Rattle.cow_model.specs.declared.value.Plain.TheVariants.{Set}
use Rattle.cow_value.specs.Seen.{Seen}

-- a set
abbrev pub set : Flat (List Literal) → Seen
set s = record { value = Set s.value; alone = s.alone; hidden = 0 }

-- its kind
abbrev pub is_set : Plain → Bool
is_set (Set items) = true
is_set value = false
