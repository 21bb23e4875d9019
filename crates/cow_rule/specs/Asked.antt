-- How often a rule has been asked.
use Rattle.std.specs.Prelude.{ℕ, ◌+◌, ◌-◌, ◌^◌, ◌≤◌, min, max}

-- how often, after n times more; the number stands still at 2 ^ 64 - 1, and never falls
abbrev pub raised : ℕ → ℕ → ℕ
raised n asked = max asked (min (asked + n) (2 ^ 64 - 1))

-- it rose by at most n
pub record RisesTo (n before after : ℕ) : Type 0 where
  pub most : after ≤ before + n
  pub kept : before ≤ after
