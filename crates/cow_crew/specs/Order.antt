-- Results in the order of the jobs.
use Rattle.std.specs.Prelude.{◌≡◌, ℕ, List, length, Some, slice_get}

-- there is one result for each job, and the i-th is one that the i-th job gives
pub record InOrder {J X : Type 0} (gives : J → X → Type 0) (jobs : List J) (outs : List X) : Type 0 where
  pub len : length outs ≡ length jobs
  pub each : (i : ℕ) (j : J) (x : X) → slice_get jobs i ≡ Some j → slice_get outs i ≡ Some x → gives j x
