-- The words in which contracts speak of rows and of the handles of one.
use Rattle.std.specs.Prelude.{◌≡◌, ℕ, ◌+◌, ◌≤◌, Bool, true, List, ◌++◌, map, take, drop, length, count_by, Result, IsOk}
use Rattle.std.specs.List.{splice}
use Rattle.cow_cell.specs.declared.counted.Counted.{Counted}
use Rattle.cow_model.specs.Flat.{copies}
use Rattle.cow_model.specs.Purse.{Purse, Moves, more, unit_if}
use Rattle.cow_model.specs.declared.plain.Literal.{Literal}
use Rattle.cow_row.specs.RowView.{RowView}

-- the n items from i on
abbrev pub run_of : {X : Type 0} → ℕ → ℕ → List X → List X
run_of i n xs = take n (drop i xs)

module _ {T : Type 0} where
  -- all places of a row, the empty ones before its items among them
  abbrev pub places : RowView T → ℕ
  places r = r.front + r.capacity

  -- the same items from the first place on
  abbrev pub fronted : RowView T → RowView T
  fronted r = record { items = r.items; front = 0; capacity = places r }

  -- there is room for n items, and for 4
  abbrev pub IsWide : ℕ → RowView T → Type 0
  IsWide n r = (4 ≤ r.capacity) × (n ≤ r.capacity)

module _ {T : Type 0} (plain : T → Literal) where
  -- `after` shows what `before` did, and the items xs behind it
  abbrev pub Gains : (xs before after : List T) → Type 0
  Gains xs before after = map plain after ≡ map plain before ++ map plain xs

  -- the row shows what the n items from i on did
  abbrev pub ShowsRun : (i n : ℕ) (before after : RowView T) → Type 0
  ShowsRun i n before after = map plain after.items ≡ map plain (run_of i n before.items)

  -- the n items from j on show what those from i on did
  abbrev pub SameRun : (n i j : ℕ) (before after : RowView T) → Type 0
  SameRun n i j before after = map plain (run_of j n after.items) ≡ map plain (run_of i n before.items)

  -- the items xs stand in the place of the n from i on
  pub record Splices (i n : ℕ) (xs : List T) (before after : RowView T) : Type 0 where
    pub shown : map plain after.items ≡ splice (map plain before.items) i (i + n) (map plain xs)
    pub count : length after.items + n ≡ length before.items + length xs

  module _ (is_counted : Literal → Bool) where
    -- the units that these items hold
    abbrev pub units : List T → ℕ
    units xs = count_by is_counted (map plain xs)

    -- spare falls by exactly the units of these items
    abbrev pub Spends : List T → (h h' : Purse) → Type 0
    Spends xs h h' = h'.spare + units xs ≡ h.spare

    -- spare and the units that the row's items hold are as many together as before
    abbrev pub Balances : (before after : RowView T) (h h' : Purse) → Type 0
    Balances before after h h' = h'.spare + units after.items ≡ h.spare + units before.items

    -- they are no more together than before
    abbrev pub NoGain : (before after : RowView T) (h h' : Purse) → Type 0
    NoGain before after h h' = h'.spare + units after.items ≤ h.spare + units before.items

    -- the row's items hold no more units than before
    abbrev pub NoMoreUnits : (before after : RowView T) → Type 0
    NoMoreUnits before after = units after.items ≤ units before.items

    -- no more but that of the item x
    abbrev pub AddsUnit : T → (before after : RowView T) → Type 0
    AddsUnit x before after = units after.items ≤ units before.items + unit_if (is_counted (plain x))

    module _ {Q : Type 0} where
      -- a change costs, for which n copies are made where the handle is not alone: spare moves by at most the units of the items held
      abbrev pub Costs : ℕ → Counted (RowView T) Q → (h h' : Purse) → Type 0
      Costs n c h h' = Moves (units c.value.items) (copies c.alone n) h h'

      -- of an alone handle exactly the units of its items come back
      abbrev pub Returns : Counted (RowView T) Q → (h h' : Purse) → Type 0
      Returns c h h' = c.alone ≡ true → h' ≡ more (units c.value.items) h

module _ {T Q : Type 0} where
  -- the handle is alone, its row has this capacity, and its items begin at the first place
  abbrev pub IsFresh : ℕ → Counted (RowView T) Q → Type 0
  IsFresh n c = (c.alone ≡ true) × (c.value.capacity ≡ n) × (c.value.front ≡ 0)

  -- where the handle is alone and n items fit, the answer is Ok, and the handle is as it was
  abbrev pub StandsBy : {A E : Type 0} → ℕ → Result A E → (before after : Counted (RowView T) Q) → Type 0
  StandsBy n result before after = before.alone ≡ true → n ≤ before.value.capacity → IsOk result × (after ≡ before)
