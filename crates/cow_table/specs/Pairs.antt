-- What contracts see of a table, how its pairs change, and what they say of keys.
use Rattle.std.specs.Prelude.{◌≡◌, ◌≢◌, ℕ, ◌+◌, ◌-◌, ◌<◌, List, [], ◌∷◌, length, Option, Some, None, option_map, if◌then◌else◌, eqb, nat_lt}
use Rattle.cow_buf.specs.Places.{place}
use Rattle.cow_model.specs.declared.plain.Literal.{Literal}

-- a hash, and the position of the key that has it
pub record Pair : Type 0 where
  pub hash : ℕ
  pub position : ℕ

-- the pairs, at distinct positions, in no order that a clause names; and how many more fit without growth
pub record TableView : Type 0 where
  pub pairs : List Pair
  pub room : ℕ

-- the hash at a position
abbrev pub hash_at : List Pair → ℕ → Option ℕ
hash_at [] p = None
hash_at (e ∷ es) p = if eqb e.position p then Some e.hash else hash_at es p

-- one more pair
pub record Gains (e : Pair) (before after : List Pair) : Type 0 where
  pub lookup : (q : ℕ) → hash_at after q ≡ (if eqb e.position q then Some e.hash else hash_at before q)
  pub count : length after ≡ length before + 1

-- the pair at position p is gone
pub record Loses (p : ℕ) (before after : List Pair) : Type 0 where
  pub lookup : (q : ℕ) → hash_at after q ≡ (if eqb p q then None else hash_at before q)
  pub count : length after + 1 ≡ length before

-- the same pairs, in any order
pub record Keeps (before after : List Pair) : Type 0 where
  pub lookup : (q : ℕ) → hash_at after q ≡ hash_at before q
  pub count : length after ≡ length before

-- the pair of `from` has the position `to`
pub record Renames (h from to : ℕ) (before after : List Pair) : Type 0 where
  pub lookup : (q : ℕ) → hash_at after q ≡ (if eqb to q then Some h else (if eqb from q then None else hash_at before q))
  pub count : length after ≡ length before

-- the positions above i are one less
pub record Closes (i : ℕ) (before after : List Pair) : Type 0 where
  pub lookup : (q : ℕ) → hash_at after q ≡ hash_at before (if nat_lt q i then q else q + 1)
  pub count : length after ≡ length before

-- the positions from i on are one more
pub record Opens (i : ℕ) (before after : List Pair) : Type 0 where
  pub lookup : (q : ℕ) → hash_at after q ≡ (if eqb q i then None else hash_at before (if nat_lt q i then q else q - 1))
  pub count : length after ≡ length before

-- each pair's position is below `bound`
abbrev pub Below : ℕ → List Pair → Type 0
Below bound pairs = (p h : ℕ) → hash_at pairs p ≡ Some h → p < bound

module _ {K : Type 0} (plain : K → Literal) where
  -- each pair's position is a filled place, and its hash that of the key there
  abbrev pub Indexes : (Literal → ℕ) → List (Option K) → List Pair → Type 0
  Indexes hash_of keys pairs = (p h : ℕ) → hash_at pairs p ≡ Some h → option_map (λ k. hash_of (plain k)) (place keys p) ≡ Some h

  -- the key at place p is a
  abbrev pub HasKey : List (Option K) → Literal → ℕ → Type 0
  HasKey keys a p = option_map plain (place keys p) ≡ Some a

  -- at no pair's position is a
  abbrev pub Lacks : List (Option K) → List Pair → Literal → Type 0
  Lacks keys pairs a = (p h : ℕ) → hash_at pairs p ≡ Some h → option_map plain (place keys p) ≢ Some a
