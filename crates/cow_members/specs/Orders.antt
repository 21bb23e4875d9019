-- How pairs and keys change places.
use Rattle.std.specs.Prelude.{◌≡◌, ℕ, Bool, List, ◌++◌, length, filter, take, drop, Some, if◌then◌else◌, eqb}
use Rattle.cow_model.specs.Members.{last}
use Rattle.cow_model.specs.declared.plain.Literal.{Literal}
use Rattle.cow_table.specs.Pairs.{Pair, hash_at}

-- the pair at i, with the hash `first`, and the pair at j, with the hash `second`, change places
pub record Exchanges (i first j second : ℕ) (before after : List Pair) : Type 0 where
  pub lookup : (q : ℕ) → hash_at after q ≡ (if eqb i q then Some second else if eqb j q then Some first else hash_at before q)
  pub count : length after ≡ length before

-- of the items before `end` those that pass, and all from there on
abbrev pub staying : (Literal → Bool) → ℕ → List Literal → List Literal
staying passes end xs = filter passes (take end xs) ++ drop end xs

-- behind a front of items another one, where it stays
abbrev pub followed_by : Bool → Literal → List Literal → List Literal
followed_by stays a front = if stays then last a front else front
