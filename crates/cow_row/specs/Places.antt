-- How the items of a row lie in the places of its buffer.
use Rattle.std.specs.Prelude.{◌≡◌, ℕ, ◌+◌, ◌-◌, ◌≤◌, ◌^◌, get_or, List, [], ◌∷◌, ◌++◌, map, length, replicate, Option, Some, None}

module _ {X : Type 0} where
  -- the items that are there
  abbrev pub somes : List (Option X) → List X
  somes [] = []
  somes (None ∷ cs) = somes cs
  somes (Some x ∷ cs) = x ∷ somes cs

  -- what place i holds
  abbrev pub place : List (Option X) → ℕ → Option X
  place cs i = get_or cs i None

  -- `front` empty places, the items, and `room` empty places
  abbrev pub packed : ℕ → List X → ℕ → List (Option X)
  packed front xs room = replicate front None ++ (map Some xs ++ replicate room None)

  -- the same with a gap of empty places between the items xs and ys
  abbrev pub gapped : ℕ → List X → ℕ → List X → ℕ → List (Option X)
  gapped front xs gap ys room = replicate front None ++ (map Some xs ++ (replicate gap None ++ (map Some ys ++ replicate room None)))

  -- `len` items stand side by side after `front` empty places, and all other places are empty
  pub record IsPacked (cs : List (Option X)) (front len : ℕ) : Type 0 where
    pub places : cs ≡ packed front (somes cs) (length cs - (front + len))
    pub count : length (somes cs) ≡ len
    pub fits : front + len ≤ length cs
    pub small : length cs ≤ 2 ^ 32
