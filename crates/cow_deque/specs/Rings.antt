-- How the items of a ring lie in the places of its buffer.
use Rattle.std.specs.Prelude.{◌≡◌, ℕ, ◌+◌, ◌-◌, ◌<◌, ◌≤◌, ◌^◌, ◌⊎◌, List, ◌++◌, length, take, drop, Option}
use Rattle.cow_row.specs.Places.{somes, gapped, IsPacked}

-- xs from index k on, and behind it the first k: xs read from k on, round its end
abbrev pub turned : {Y : Type 0} → ℕ → List Y → List Y
turned k xs = drop k xs ++ take k xs

-- p is `head + i`, counted round the end of n places
abbrev pub Wraps : (head i n p : ℕ) → Type 0
Wraps head i n p = (p < n) × ((p ≡ head + i) ⊎ (p + n ≡ head + i))

-- read from the place `head` on, round the end, `len` items stand side by side, and the places behind them are empty
pub record IsRing {X : Type 0} (cs : List (Option X)) (head len : ℕ) : Type 0 where
  pub start : head ≤ length cs
  pub packed : IsPacked (turned head cs) 0 len

-- read from the place `head` on, round the end, the items stand side by side but for one empty place before item k, and the places behind them are empty
pub record HasGap {X : Type 0} (cs : List (Option X)) (head k : ℕ) : Type 0 where
  pub start : head ≤ length cs
  pub within : k ≤ length (somes (turned head cs))
  pub places : turned head cs ≡ gapped 0 (take k (somes (turned head cs))) 1 (drop k (somes (turned head cs))) (length cs - length (somes (turned head cs)) - 1)
  pub room : length (somes (turned head cs)) < length cs
  pub small : length cs ≤ 2 ^ 32
