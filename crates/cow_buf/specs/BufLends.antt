-- What a buffer holds once a `&mut` into a place has ended.
use Rattle.std.specs.Prelude.{ℕ, List, slice_set, Option, Some}
use Rattle.std.specs.Borrow.{Fml, RattleType, MutBor, Lends}
use Rattle.cow_buf.specs.contracts.buf.Buf.{the_row}

-- place i of the buffer that b borrows ends at what r ends at
abbrev pub lends_place : (R : RattleType) → MutBor (List (Option R.Denot)) → ℕ → MutBor R.Denot → Fml
lends_place R b i r = Lends (the_row R) R b r (λ w. slice_set b.now i (Some w))
