-- The words in which contracts speak of a node's shape.
use Rattle.std.specs.Prelude.{◌≡◌, ℕ, ◌==◌, List, ◌++◌, map, length, Option, All}
use Rattle.cow_model.specs.Canon.{Tree, pairs, get, given, canon, count_where}
use Rattle.cow_model.specs.declared.plain.Literal.{Literal}
use Rattle.cow_model.specs.declared.value.Pair.{Pair}

-- how many pairs it has
abbrev pub size : Tree → ℕ
size s = length (pairs s)

-- the value under a key
abbrev pub held : Literal → Tree → Option Literal
held k s = get k (pairs s)

-- how many keys of a hash it has
abbrev pub alike : (Literal → ℕ) → ℕ → Tree → ℕ
alike hash_of hash s = count_where (λ p. hash_of p.key == hash) (pairs s)

-- the canonical shape of its pairs after a key was given a value
abbrev pub with_pair : (Literal → ℕ) → ℕ → Literal → Literal → Tree → Tree
with_pair hash_of level k v s = canon hash_of (given k v (pairs s)) level

-- `after` is `before` and, behind it, settled items that show these pairs
pub record Appends {X : Type 0} (seen : X → Pair) (Settled : X → Type 0) (ps : List Pair) (before after : List X) : Type 0 where
  pub more : List X
  pub list : after ≡ before ++ more
  pub shown : map seen more ≡ ps
  pub settled : All Settled more
