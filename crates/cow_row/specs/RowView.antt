-- What contracts see of a row, and what a collection asks of one.
use Rattle.std.specs.Prelude.{ℕ, ◌≤◌, ◌^◌, List, length, All}

-- the items; how many places before them are empty; and how many items fit from the first one's place on
pub record RowView (T : Type 0) : Type 0 where
  pub items : List T
  pub front : ℕ
  pub capacity : ℕ

-- each item meets P, and the items lie within the row and within the limit of a collection
pub record IsSound {T : Type 0} (P : T → Type 0) (r : RowView T) : Type 0 where
  pub settled : All P r.items
  pub fits : length r.items ≤ r.capacity
  pub small : length r.items ≤ 2 ^ 31
