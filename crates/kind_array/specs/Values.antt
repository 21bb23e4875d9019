-- What contracts see of an array and of a slice, and which plain values are of these kinds.
use Rattle.std.specs.Prelude.{Bool, true, false, List}
use Rattle.cow_array.specs.Slice as slices
use Rattle.cow_model.specs.Flat.{Flat}
use Rattle.cow_model.specs.declared.plain.Literal.{Literal}
use Rattle.cow_model.specs.declared.value.Plain.{Plain}
use Rattle.cow_model.specs.declared.value.Plain.TheVariants.{Array, Slice}
use Rattle.cow_value.specs.Seen.{Seen}

-- an array
abbrev pub array : Flat (List Literal) → Seen
array a = record { value = Array a.value; alone = a.alone; hidden = 0 }

-- its kind
abbrev pub is_array : Plain → Bool
is_array (Array items) = true
is_array value = false

-- a slice: the units of its storage, those of elements that it doesn't show among them
abbrev pub slice : Flat slices.Slice → Seen
slice s = record { value = Slice s.value.start s.value.items; alone = s.alone; hidden = s.value.units }

-- its kind
abbrev pub is_slice : Plain → Bool
is_slice (Slice start items) = true
is_slice value = false
