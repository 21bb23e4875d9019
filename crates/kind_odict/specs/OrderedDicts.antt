-- What the statements on ordered dictionaries share.
use Rattle.std.specs.Prelude.{◌≡◌, ℕ, ◌+◌, ◌*◌, ◌≤◌, Bool, true, List, length, remove, Result, OnOk, OnErr, ⊤}
use Rattle.std.specs.List.{sum_by}
use Rattle.cow_model.specs.Flat.{Flat, copies}
use Rattle.cow_model.specs.Pairs.{last, put}
use Rattle.cow_model.specs.Purse.{Purse, Moves}
use Rattle.cow_model.specs.Units.{pair_units}
use Rattle.cow_model.specs.declared.memory.NoMemory.{NoMemory}
use Rattle.cow_model.specs.declared.plain.Literal.{Literal}
use Rattle.cow_model.specs.declared.value.Pair.{Pair}

-- a change leaves these pairs, or all as it was for want of memory; a statement brings n atoms of so many units to it
pub record Leaves (counted : Literal → Bool) (units n : ℕ) (pairs : List Pair) (before after : Flat (List Pair))
    (h h' : Purse) (r : Result ⊤ NoMemory) : Type 0 where
  pub value : OnOk r (after.value ≡ pairs)
  pub kept : OnErr r (after.value ≡ before.value)
  pub alone : before.alone ≡ true → after.alone ≡ true
  pub parted : OnOk r (after.alone ≡ true)
  -- the copies of a storage that is shared, and those of the atoms
  pub moved : Moves (2 * sum_by (pair_units counted) before.value + units)
      (copies before.alone (2 * length before.value) + n) h h'
  pub falls : h.spare ≤ h'.spare + (2 * length before.value + n)

-- the pair of two atoms comes to an ordered dictionary, in the place of one that has its key, or last
abbrev pub Puts : (Literal → Bool) → Pair → (before after : Flat (List Pair)) → (h h' : Purse) → Result ⊤ NoMemory → Type 0
Puts counted p before after h h' r = Leaves counted (pair_units counted p) 2 (put last before.value p) before after h h' r

-- the pair at a place goes
abbrev pub Goes : (Literal → Bool) → ℕ → (before after : Flat (List Pair)) → (h h' : Purse) → Result ⊤ NoMemory → Type 0
Goes counted place before after h h' r = Leaves counted 0 0 (remove before.value place) before after h h' r
