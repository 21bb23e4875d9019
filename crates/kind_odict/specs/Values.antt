-- What contracts see of an ordered dictionary, and which plain values are of its kind.
use Rattle.std.specs.Prelude.{Bool, true, false, List}
use Rattle.cow_model.specs.Flat.{Flat}
use Rattle.cow_model.specs.declared.value.Pair.{Pair}
use Rattle.cow_model.specs.declared.value.Plain.{Plain}
use Rattle.cow_model.specs.declared.value.Plain.TheVariants.{ODict}
use Rattle.cow_value.specs.Seen.{Seen}

-- an ordered dictionary
abbrev pub odict : Flat (List Pair) → Seen
odict d = record { value = ODict d.value; alone = d.alone; hidden = 0 }

-- its kind
abbrev pub is_odict : Plain → Bool
is_odict (ODict ps) = true
is_odict value = false
