-- A handle, as contracts see it in an item.
use Rattle.std.specs.Prelude.{Bool}

-- what the handle shows, and whether it is known to be the only one of its block
pub record Handle (T : Type 0) : Type 0 where
  pub value : T
  pub alone : Bool
