-- What a block's places are once a `&mut` into one of them has ended.
use Rattle.std.specs.Prelude.{ℕ, List, slice_set, Option, Some}
use Rattle.std.specs.Borrow.{Fml, RattleType, MutBor, Lends}
use Rattle.cow_buf.specs.declared.memory.Memory.{Memory}
use Rattle.cow_buf.specs.contracts.memory.Memory.{the_row}

-- the same block, with other values in its places
abbrev pub holding : {X : Type 0} → Memory X → List (Option X) → Memory X
holding m ps = record m { places = ps }

-- place i of the block that m borrows ends at what r ends at
abbrev pub place_follows : (R : RattleType) → MutBor (Memory R.Denot) → ℕ → MutBor R.Denot → Fml
place_follows R m i r = Lends (the_row R) R m r (λ x. holding m.now (slice_set m.now.places i (Some x)))
