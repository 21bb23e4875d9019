-- Keys with the table of their hashes, and a value beside each.
use Rattle.std.specs.Prelude.{◌≡◌, ℕ, ◌≤◌, ◌^◌, min, List, [], ◌∷◌, map, drop, get_or, length, fold, All}
use Rattle.cow_members.specs.Members.{MembersView, AreSound, IsBlank}
use Rattle.cow_model.specs.Pairs.{in_order}
use Rattle.cow_model.specs.declared.plain.Literal.{Literal}
use Rattle.cow_model.specs.declared.value.Pair.{Pair}
use Rattle.cow_row.specs.RowView.{RowView}

-- what contracts see of them
pub record PairsView (K V : Type 0) : Type 0 where
  pub members : MembersView K
  pub values : RowView V

-- the pair of a key and a value
abbrev pub pair_of : Literal → Literal → Pair
pair_of k v = record { key = k; value = v }

-- the keys of pairs
abbrev pub keys : List Pair → List Literal
keys v = map (λ p. p.key) v

-- each key with the value at its position, of which there are as many
abbrev pub side_by_side : List Literal → List Literal → List Pair
side_by_side [] values = []
side_by_side (k ∷ ks) values = pair_of k (get_or values 0 k) ∷ side_by_side ks (drop 1 values)

-- the pairs by ascending key
abbrev pub by_key : List Pair → List Pair
by_key pairs = fold (λ sorted p. in_order p sorted) [] pairs

module _ {K V : Type 0} (plain : K → Literal) (worth : V → Literal) where
  -- the plain pairs, in the order of their positions
  abbrev pub listed : PairsView K V → List Pair
  listed s = side_by_side (map plain s.members.keys.items) (map worth s.values.items)

  -- the map of the plain keys to their values, as the list of its pairs by ascending key
  abbrev pub map_of : PairsView K V → List Pair
  map_of s = by_key (listed s)

-- what they keep: the keys are sound members; each has a value, which is settled; and where there is room for a value, there is for a key
pub record AreWhole {K V : Type 0} (plain : K → Literal) (hash_of : Literal → ℕ) (P : K → Type 0) (S : V → Type 0) (s : PairsView K V) : Type 0 where
  pub sound : AreSound plain hash_of P s.members
  pub settled : All S s.values.items
  pub count : length s.values.items ≡ length s.members.keys.items
  pub front : s.values.front ≡ 0
  pub fits : length s.values.items ≤ s.values.capacity
  pub roomy : min s.values.capacity (2 ^ 31) ≤ s.members.keys.capacity

-- pairs that wait for copies of those of `from`: blank members, and a row for as many values
pub record AreBlank {K V : Type 0} (capacity : ℕ) (from s : PairsView K V) : Type 0 where
  pub members : IsBlank capacity from.members s.members
  pub empty : s.values.items ≡ []
  pub front : s.values.front ≡ 0
  pub room : s.values.capacity ≡ capacity
