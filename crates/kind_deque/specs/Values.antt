-- What contracts see of a deque, and which plain values are of its kind.
use Rattle.std.specs.Prelude.{Bool, true, false, List}
use Rattle.cow_model.specs.Flat.{Flat}
use Rattle.cow_model.specs.declared.plain.Literal.{Literal}
use Rattle.cow_model.specs.declared.value.Plain.{Plain}
use Rattle.cow_model.specs.declared.value.Plain.TheVariants.{Deque}
use Rattle.cow_value.specs.Seen.{Seen}

-- a deque
abbrev pub deque : Flat (List Literal) → Seen
deque q = record { value = Deque q.value; alone = q.alone; hidden = 0 }

-- its kind
abbrev pub is_deque : Plain → Bool
is_deque (Deque items) = true
is_deque value = false
