-- What contracts see of a heap, and which plain values are of its kind.
use Rattle.std.specs.Prelude.{Bool, true, false, List}
use Rattle.cow_model.specs.Flat.{Flat}
use Rattle.cow_model.specs.declared.plain.Literal.{Literal}
use Rattle.cow_model.specs.declared.value.Plain.{Plain}
use Rattle.cow_model.specs.declared.value.Plain.TheVariants.{Heap}
use Rattle.cow_value.specs.Seen.{Seen}

-- a heap
abbrev pub heap : Flat (List Literal) → Seen
heap s = record { value = Heap s.value; alone = s.alone; hidden = 0 }

-- its kind
abbrev pub is_heap : Plain → Bool
is_heap (Heap items) = true
is_heap value = false
