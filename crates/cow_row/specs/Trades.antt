-- What a change costs by which some items stay and others end.
use Rattle.std.specs.Prelude.{ℕ, ◌+◌, ◌-◌, ◌*◌, ◌≤◌, Bool, List, [], length, map, slice_range, count_by}
use Rattle.std.specs.List.{splice}
use Rattle.cow_cell.specs.declared.counted.Counted.{Counted}
use Rattle.cow_model.specs.Purse.{Purse}
use Rattle.cow_model.specs.Flat.{copies}
use Rattle.cow_model.specs.declared.plain.Literal.{Literal}
use Rattle.cow_row.specs.RowView.{RowView}

-- a change of the list v by which the items from i up to j end, and new ones may come: spare falls by at most the units of the items that stay, and rises by at most those of the items that end; copied rises by nothing where the handle was alone, else by at most the weights of the items that stay
pub record Trades (is_counted : Literal → Bool) (weight : ℕ) (alone : Bool) (i j : ℕ) (v : List Literal) (h h' : Purse) : Type 0 where
  pub falls : h.spare ≤ h'.spare + count_by is_counted (splice v i j [])
  pub rises : h'.spare ≤ h.spare + count_by is_counted (slice_range v i j)
  pub copied : h'.copied ≤ h.copied + copies alone (weight * (length v - (j - i)))
  pub kept : h.copied ≤ h'.copied

-- the same of a handle of a row of which the n items from i on end
abbrev pub TradesRun : {T Q : Type 0} → (T → Literal) → (Literal → Bool) → ℕ → (i n : ℕ) → Counted (RowView T) Q → (h h' : Purse) → Type 0
TradesRun plain is_counted weight i n c h h' = Trades is_counted weight c.alone i (i + n) (map plain c.value.items) h h'
