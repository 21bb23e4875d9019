-- Keys at their positions, beside a table of their hashes.
use Rattle.std.specs.Prelude.{◌≡◌, ℕ, ◌+◌, ◌≤◌, ◌^◌, min, List, [], map, length, slice_get, All, Some, option_map}
use Rattle.cow_model.specs.Members.{ascending}
use Rattle.cow_model.specs.declared.plain.Literal.{Literal}
use Rattle.cow_row.specs.RowView.{RowView}
use Rattle.cow_table.specs.Pairs.{TableView, hash_at, Keeps}
use Rattle.cow_members.specs.Ascents.{Ascends}

-- what contracts see of them
pub record MembersView (K : Type 0) : Type 0 where
  pub keys : RowView K
  pub table : TableView

-- the table has the hash of each key at its position, and nothing else
pub record IsIndexed {K : Type 0} (hash : K → ℕ) (m : MembersView K) : Type 0 where
  pub lookup : (q : ℕ) → hash_at m.table.pairs q ≡ option_map hash (slice_get m.keys.items q)
  pub count : length m.table.pairs ≡ length m.keys.items
  pub front : m.keys.front ≡ 0
  pub fits : length m.keys.items ≤ m.keys.capacity
  pub small : length m.keys.items ≤ 2 ^ 31

module _ {K : Type 0} (plain : K → Literal) where
  -- the plain keys, in the order of their positions
  abbrev pub listed : MembersView K → List Literal
  listed m = map plain m.keys.items

  -- the set of the plain keys, as the ascending list of its members
  abbrev pub set_of : MembersView K → List Literal
  set_of m = ascending (listed m)

  -- the key at position i is a
  abbrev pub HasAt : MembersView K → Literal → ℕ → Type 0
  HasAt m a i = option_map plain (slice_get m.keys.items i) ≡ Some a

-- what members keep: the keys are settled, indexed and distinct, and where the row has a place for a key, the table has too
pub record AreSound {K : Type 0} (plain : K → Literal) (hash_of : Literal → ℕ) (P : K → Type 0) (m : MembersView K) : Type 0 where
  pub settled : All P m.keys.items
  pub indexed : IsIndexed (λ k. hash_of (plain k)) m
  pub apart : Ascends (set_of plain m)
  pub roomy : min m.keys.capacity (2 ^ 31) ≤ length m.keys.items + m.table.room

-- members that wait for copies of the keys of `from`: no keys, and the pairs of its table
pub record IsBlank {K : Type 0} (capacity : ℕ) (from m : MembersView K) : Type 0 where
  pub empty : m.keys.items ≡ []
  pub front : m.keys.front ≡ 0
  pub room : m.keys.capacity ≡ capacity
  pub pairs : Keeps from.table.pairs m.table.pairs
  pub roomy : min capacity (2 ^ 31) ≤ length from.keys.items + m.table.room
