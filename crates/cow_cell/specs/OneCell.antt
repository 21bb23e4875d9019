-- One cell: what a block is to those who hold it, and what each of its six steps does. The count of the block is
-- the number of its live handles (`Cell.antt`). A contract can't name that number: it says that the step is
-- lawful for a cell that shows the handle's value, and what follows for the units.
--
--     new                            make
--     share, share_settled           retain
--     end that answers None          leave
--     end that answers Some          last
--     sole that answers Some         finds_one, and what is lent may be written till the handle is shared,
--                                    settled or ended
--     sole that answers None         finds_more
--     a drop                         leave or last, and no holder gets the unit
use Rattle.std.specs.Prelude.{◌≡◌, ℕ, ◌+◌, ◌≤◌, ◌^◌}
use Rattle.cow_model.specs.Purse.{Purse}

-- a value, and how many live handles show it
pub record OneCell (X : Type 0) : Type 0 where
  pub value : X
  pub handles : ℕ

-- the six kinds of step
pub data Step : Type 0 where
  make : Step
  retain : Step
  leave : Step
  last : Step
  finds_one : Step
  finds_more : Step

-- how many handles a step finds and how many it leaves
abbrev pub Turns : Step → ℕ → ℕ → Type 0
Turns make found left = (found ≡ 0) × (left ≡ 1)
Turns retain found left = (1 ≤ found) × (left ≡ found + 1)
Turns leave found left = (2 ≤ found) × (left + 1 ≡ found)
Turns last found left = (found ≡ 1) × (left ≡ 0)
Turns finds_one found left = (found ≡ 1) × (left ≡ 1)
Turns finds_more found left = (2 ≤ found) × (left ≡ found)

-- a step on a cell that shows x, after which the units that lie in the cell and those of the holder h are no more than the stock has
pub record Took {X : Type 0} (s : Step) (x : X) (h : Purse) : Type 0 where
  pub cell : OneCell X
  pub left : ℕ
  pub shows : cell.value ≡ x
  pub turns : Turns s cell.handles left
  pub stock : left + h.spare ≤ 2 ^ 62
