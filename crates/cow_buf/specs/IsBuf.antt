use Rattle.std.specs.Prelude.{◌≡◌, ◌≤◌, ◌^◌, length}
use Rattle.cow_buf.specs.declared.buf.Buf.TheInside.{Inside}

-- the count is that of the places, and they are few enough to count
pub record IsBuf {X : Type 0} (b : Inside X) : Type 0 where
  pub count : b.count ≡ length b.memory.places
  pub small : length b.memory.places ≤ 2 ^ 32
