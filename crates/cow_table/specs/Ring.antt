-- The buckets of a table as a ring of places, and how its pairs lie in them.
use Rattle.std.specs.Prelude.{◌≡◌, ◌≢◌, ℕ, ◌+◌, ◌-◌, ◌/◌, ◌%◌, ◌^◌, ◌<◌, ◌≤◌, ◌⊎◌, List, [], ◌∷◌, map, length, Option, Some, None, if◌then◌else◌, eqb, nat_le, nat_lt, slice_set, ⊤}
use Rattle.cow_buf.specs.Places.{place}
use Rattle.cow_table.specs.Pairs.{Pair, hash_at, Gains, Loses, Keeps}
use Rattle.cow_table.specs.declared.ring.Bucket.{Bucket}

-- what a bucket holds: the greatest position stands for nothing
abbrev pub seen : Bucket → Option Pair
seen b = if eqb b.position 4294967295 then None else Some (record { hash = b.hash; position = b.position })

-- what buckets hold
abbrev pub cells : List Bucket → List (Option Pair)
cells bs = map seen bs

-- the pairs that are there
abbrev pub pairs_of : List (Option Pair) → List Pair
pairs_of [] = []
pairs_of (None ∷ cs) = pairs_of cs
pairs_of (Some e ∷ cs) = e ∷ pairs_of cs

-- each pair has a position of its own
abbrev pub Apart : List Pair → Type 0
Apart [] = ⊤
Apart (e ∷ es) = (hash_at es e.position ≡ None) × Apart es

-- a number of buckets: a power of two, from 8 to 2^32
pub record IsSize (n : ℕ) : Type 0 where
  pub power : ℕ
  pub low : 3 ≤ power
  pub high : power ≤ 32
  pub is : n ≡ 2 ^ power

-- how many pairs n buckets hold: three quarters of them
abbrev pub limit : ℕ → ℕ
limit n = n - n / 4

-- the steps from place a on to place b, round a ring of n
unfoldable pub distance : ℕ → ℕ → ℕ → ℕ
distance n a b = if nat_le a b then b - a else b + n - a

-- b comes after a in a ring of n
abbrev pub IsNext : ℕ → ℕ → ℕ → Type 0
IsNext n a b = ((b ≡ a + 1) × (b < n)) ⊎ ((b ≡ 0) × (a + 1 ≡ n))

-- a pair stands where no free bucket lies from its home on
pub record IsPlaced (cs : List (Option Pair)) : Type 0 where
  pub reached : (i j : ℕ) (e : Pair) → i < length cs → j < length cs → place cs i ≡ Some e
      → distance (length cs) (e.hash % length cs) j < distance (length cs) (e.hash % length cs) i → place cs j ≢ None

-- each pair stands at most `reach` places after its home
pub record IsNear (reach : ℕ) (cs : List (Option Pair)) : Type 0 where
  pub near : (i : ℕ) (e : Pair) → i < length cs → place cs i ≡ Some e → distance (length cs) (e.hash % length cs) i ≤ reach

-- where pairs stood at most `reach` places after their homes, they still do, if `far` is no more than that
abbrev pub StaysNear : (far : ℕ) → (before after : List (Option Pair)) → Type 0
StaysNear far before after = (reach : ℕ) → far ≤ reach → IsNear reach before → IsNear reach after

-- each of the n places from `start` on before `at` is filled
abbrev pub FilledBefore : ℕ → List (Option Pair) → (start at : ℕ) → Type 0
FilledBefore n cs start at = (j : ℕ) → j < n → distance n start j < distance n start at → place cs j ≢ None

-- the pairs in the n places have positions below `bound`
abbrev pub PlacedBelow : ℕ → ℕ → List (Option Pair) → Type 0
PlacedBelow bound n cs = (k : ℕ) (e : Pair) → k < n → place cs k ≡ Some e → e.position < bound

-- what a cell holds has a position that is not there
abbrev pub IsNew : Option Pair → List Pair → Type 0
IsNew cell pairs = (e : Pair) → cell ≡ Some e → hash_at pairs e.position ≡ None

-- what place `at` held is gone
abbrev pub Empties : ℕ → (before after : List (Option Pair)) → Type 0
Empties at before after = (e : Pair) → place before at ≡ Some e → Loses e.position (pairs_of before) (pairs_of after)

-- the buckets are a ring of placed pairs with positions of their own
pub record IsRing (cs : List (Option Pair)) : Type 0 where
  pub size : IsSize (length cs)
  pub placed : IsPlaced cs
  pub apart : Apart (pairs_of cs)

-- a bucket is free
pub record HasFree (cs : List (Option Pair)) : Type 0 where
  pub at : ℕ
  pub within : at < length cs
  pub free : place cs at ≡ None

-- a bucket holds the pair
pub record HasPair (cs : List (Option Pair)) (h p : ℕ) : Type 0 where
  pub at : ℕ
  pub within : at < length cs
  pub is : place cs at ≡ Some (record { hash = h; position = p })

-- the invariant of a table: `room` is what is left of the limit, and `reach` how far pairs stand from their homes at most
pub record IsTable (bs : List Bucket) (room reach : ℕ) : Type 0 where
  pub ring : IsRing (cells bs)
  pub load : length (pairs_of (cells bs)) + room ≡ limit (length bs)
  pub near : IsNear reach (cells bs)

-- the pair at `at` stays where it is, since its home lies after the hole
pub record Stays (cs : List (Option Pair)) (hole at : ℕ) (after : List (Option Pair)) (place_of : ℕ) (e : Pair) : Type 0 where
  pub was : place cs at ≡ Some e
  pub home : distance (length cs) (e.hash % length cs) at ≤ distance (length cs) (e.hash % length cs) hole
  pub cells : after ≡ cs
  pub now : place_of ≡ hole

-- the pair at `at` has moved into the hole
pub record Moves (cs : List (Option Pair)) (hole at : ℕ) (after : List (Option Pair)) (place_of : ℕ) (e : Pair) : Type 0 where
  pub was : place cs at ≡ Some e
  pub home : distance (length cs) (e.hash % length cs) hole < distance (length cs) (e.hash % length cs) at
  pub cells : after ≡ slice_set (slice_set cs at None) hole (Some e)
  pub now : place_of ≡ at

-- what becomes of the pair at `at`, and where the hole is then
pub record Settles (cs : List (Option Pair)) (hole at : ℕ) (after : List (Option Pair)) (place_of : ℕ) : Type 0 where
  pub pair : Pair
  pub way : Stays cs hole at after place_of pair ⊎ Moves cs hole at after place_of pair

-- what a cell holds is added
abbrev pub Adds : Option Pair → List Pair → List Pair → Type 0
Adds None before after = Keeps before after
Adds (Some e) before after = Gains e before after

-- the pair at another position
abbrev pub relabelled : (ℕ → ℕ) → Pair → Pair
relabelled f e = record { hash = e.hash; position = f e.position }

-- a position when the one at i closes up
abbrev pub shut : ℕ → ℕ → ℕ
shut i p = if nat_le p i then p else p - 1

-- and when the one at i opens up
abbrev pub opened : ℕ → ℕ → ℕ
opened i p = if nat_lt p i then p else p + 1
