-- What contracts see of a heap's row, and of a handle of one.
use Rattle.std.specs.Prelude.{◌≡◌, ℕ, ◌-◌, List, map, length, remove}
use Rattle.cow_cell.specs.declared.counted.Counted.{Counted}
use Rattle.cow_heap.specs.Levels.{IsMinMax, before}
use Rattle.cow_model.specs.Flat.{Flat}
use Rattle.cow_model.specs.Members.{ascending, in_order}
use Rattle.cow_model.specs.declared.plain.Literal.{Literal}
use Rattle.cow_row.specs.RowView.{RowView, IsSound}

module _ {T : Type 0} (plain : T → Literal) where
  -- the plain values of these items in ascending order
  abbrev pub ascent : List T → List Literal
  ascent xs = ascending (map plain xs)

  -- x came in the stead of the one at place k of the ascending list
  abbrev pub Exchanges : ℕ → T → (before after : List T) → Type 0
  Exchanges k x before after = ascent after ≡ in_order (plain x) (remove (ascent before) k)

  -- a handle of a heap's row, as contracts see a collection
  abbrev pub seen : {Q : Type 0} → Counted (RowView T) Q → Flat (List Literal)
  seen c = record { value = ascent c.value.items; alone = c.alone; room = c.value.capacity - length c.value.items }

  -- a heap's row: its items are settled and in order of levels, and begin at the first place
  pub record IsHeap (IsSettled : T → Type 0) (r : RowView T) : Type 0 where
    pub sound : IsSound IsSettled r
    pub levels : IsMinMax (before plain) r.items
    pub front : r.front ≡ 0
