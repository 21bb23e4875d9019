-- What contracts see of a dictionary, and which plain values are of its kind.
use Rattle.std.specs.Prelude.{Bool, true, false, List}
use Rattle.cow_model.specs.Flat.{Flat}
use Rattle.cow_model.specs.declared.value.Pair.{Pair}
use Rattle.cow_model.specs.declared.value.Plain.{Plain}
use Rattle.cow_model.specs.declared.value.Plain.TheVariants.{Dict}
use Rattle.cow_value.specs.Seen.{Seen}

-- a dictionary
abbrev pub dict : Flat (List Pair) → Seen
dict d = record { value = Dict d.value; alone = d.alone; hidden = 0 }

-- its kind
abbrev pub is_dict : Plain → Bool
is_dict (Dict ps) = true
is_dict value = false
