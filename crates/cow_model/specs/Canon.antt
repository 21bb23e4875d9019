-- The canonical shape of a trie, as a function of its pairs: after Steindorfer and Vinju, "Optimizing Hash-Array Mapped Tries for Fast and Lean Immutable JVM Collections".
use Rattle.std.specs.Prelude.{◌≡◌, ℕ, Bool, not, if◌then◌else◌, ◌+◌, ◌-◌, ◌*◌, ◌/◌, ◌%◌, ◌^◌, ◌<◌, ◌≤◌, ◌==◌, List, [], ◌∷◌, ◌++◌, filter, Option, Some, None, All}
use Rattle.std.proofs.Common.{zero, suc}
use Rattle.cow_model.specs.Order.{same, below}
use Rattle.cow_model.specs.declared.plain.Literal.{Literal}
use Rattle.cow_model.specs.declared.value.Pair.{Pair}

-- `same` and `below`, which a proof about shapes doesn't open
unfoldable pub is_one : Literal → Literal → Bool
is_one k j = same k j

unfoldable pub is_before : Literal → Literal → Bool
is_before k j = below k j

-- whether a pair has this key
abbrev pub has_key : Literal → Pair → Bool
has_key k p = is_one p.key k

-- how many pairs pass a test
abbrev pub count_where : (Pair → Bool) → List Pair → ℕ
count_where test [] = 0
count_where test (p ∷ ps) = (if test p then 1 else 0) + count_where test ps

-- no key stands twice
abbrev pub IsDistinct : List Pair → Type 0
IsDistinct ps = (k : Literal) → count_where (has_key k) ps ≤ 1

-- five bits of a hash for each level
abbrev pub digit : ℕ → ℕ → ℕ
digit hash level = hash / 2 ^ (5 * level) % 32

-- A node is a list of pairs whose hashes are all equal, or has at each digit nothing, an entry or a child.
mutual
  pub data Tree : Type 0 where
    collide : List Pair → Tree
    branch : (ℕ → Slot) → Tree

  pub data Slot : Type 0 where
    free : Slot
    entry : Pair → Slot
    child : Tree → Slot

-- the lists that f gives below n, one after another
unfoldable pub spread : ℕ → (ℕ → List Pair) → List Pair
spread zero f = []
spread (suc n) f = spread n f ++ f n

-- the pairs of a node, by digit
unfoldable mutual
  pub pairs : Tree → List Pair
  pairs (collide ps) = ps
  pairs (branch at) = spread 32 (λ d. slot_pairs (at d))

  pub slot_pairs : Slot → List Pair
  slot_pairs free = []
  slot_pairs (entry p) = p ∷ []
  slot_pairs (child s) = pairs s

-- a pair before the first whose key isn't below its own
unfoldable pub placed : Pair → List Pair → List Pair
placed p [] = p ∷ []
placed p (q ∷ qs) = if is_before q.key p.key then q ∷ placed p qs else p ∷ (q ∷ qs)

-- pairs in ascending key order
unfoldable pub ascending : List Pair → List Pair
ascending [] = []
ascending (p ∷ ps) = placed p (ascending ps)

module _ (hash_of : Literal → ℕ) where
  -- the pairs whose key has this digit
  unfoldable pub group : ℕ → ℕ → List Pair → List Pair
  group level d ps = filter (λ p. digit (hash_of p.key) level == d) ps

  -- a group of one pair is an entry, a larger one a child
  unfoldable pub slot_of : (List Pair → Tree) → List Pair → Slot
  slot_of below [] = free
  slot_of below (p ∷ []) = entry p
  slot_of below (p ∷ (q ∷ ps)) = child (below (p ∷ (q ∷ ps)))

  -- n levels of branches over collision nodes
  unfoldable pub canon_over : ℕ → ℕ → List Pair → Tree
  canon_over zero level ps = collide (ascending ps)
  canon_over (suc n) level ps = branch (λ d. slot_of (canon_over n (suc level)) (group level d ps))

  -- the canonical shape of the pairs at a level: seven levels branch
  unfoldable pub canon : List Pair → ℕ → Tree
  canon ps level = canon_over (7 - level) level ps

  -- no key stands twice, and the shape is the one of the pairs
  pub record IsCanonical (s : Tree) (level : ℕ) : Type 0 where
    pub distinct : IsDistinct (pairs s)
    pub shape : s ≡ canon (pairs s) level

-- the pairs without this key
unfoldable pub without : Literal → List Pair → List Pair
without k ps = filter (λ q. not (has_key k q)) ps

-- the value under a key
unfoldable pub get : Literal → List Pair → Option Literal
get k [] = None
get k (p ∷ ps) = if has_key k p then Some p.value else get k ps

-- the pairs after a key was given a value
abbrev pub given : Literal → Literal → List Pair → List Pair
given k v ps = record { key = k; value = v } ∷ without k ps

-- the hashes of the pairs agree with a hash below a level
abbrev pub AgreeBelow : (Literal → ℕ) → ℕ → ℕ → List Pair → Type 0
AgreeBelow hash_of level hash ps = (l : ℕ) → l < level → All (λ p. digit (hash_of p.key) l ≡ digit hash l) ps
