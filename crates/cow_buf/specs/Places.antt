-- Which places are filled, and what a list of places becomes when a run of them moves.
use Rattle.std.specs.Prelude.{◌≡◌, ℕ, ◌+◌, ◌<◌, ◌≤◌, ◌⊎◌, get_or, List, map, length, take, drop, replicate, Option, Some, None}
use Rattle.std.specs.List.{splice}

module _ {X : Type 0} where
  -- what the i-th place holds
  abbrev pub place : List (Option X) → ℕ → Option X
  place cs i = get_or cs i None

  -- the i-th place holds a value
  abbrev pub IsFilled : List (Option X) → ℕ → Type 0
  IsFilled cs i = (x : X) × (place cs i ≡ Some x)

  -- the n places from `from` on hold values
  abbrev pub IsRun : List (Option X) → ℕ → ℕ → Type 0
  IsRun cs from n = (from + n ≤ length cs) × ((xs : List X) × (take n (drop from cs) ≡ map Some xs))

  -- each place from low up to high is empty
  abbrev pub IsClear : List (Option X) → ℕ → ℕ → Type 0
  IsClear cs low high = (i : ℕ) → low ≤ i → i < high → place cs i ≡ None

  -- each place from low up to high is empty, but for the n from `from` on
  abbrev pub IsClearBut : List (Option X) → ℕ → ℕ → ℕ → ℕ → Type 0
  IsClearBut cs low high from n = (i : ℕ) → low ≤ i → i < high → (i < from) ⊎ (from + n ≤ i) → place cs i ≡ None

-- ys with e at the n indices from `from` on
abbrev pub blanked : {Y : Type 0} → Y → ℕ → ℕ → List Y → List Y
blanked e from n ys = splice ys from (from + n) (replicate n e)

-- the n elements from `from` on moved to `to`, with e where they were and are no more
abbrev pub moved : {Y : Type 0} → Y → ℕ → ℕ → ℕ → List Y → List Y
moved e from to n ys = splice (blanked e from n ys) to (to + n) (take n (drop from ys))

-- the n places from `from` on moved to `to`, and what they left is empty
abbrev pub shifted : {X : Type 0} → ℕ → ℕ → ℕ → List (Option X) → List (Option X)
shifted from to n cs = moved None from to n cs
