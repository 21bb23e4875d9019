-- What the statements on dictionaries share.
use Rattle.std.specs.Prelude.{◌≡◌, ℕ, ◌+◌, ◌*◌, ◌≤◌, Bool, true, List, length, Result, OnOk, OnErr, ⊤}
use Rattle.std.specs.List.{sum_by}
use Rattle.cow_model.specs.Flat.{Flat, copies}
use Rattle.cow_model.specs.Pairs.{in_order, put}
use Rattle.cow_model.specs.Purse.{Purse, Moves}
use Rattle.cow_model.specs.Units.{pair_units}
use Rattle.cow_model.specs.declared.memory.NoMemory.{NoMemory}
use Rattle.cow_model.specs.declared.plain.Literal.{Literal}
use Rattle.cow_model.specs.declared.value.Pair.{Pair}
use Rattle.cow_value.specs.Seen.{Brings}

-- what another dictionary brings to a change that adds its pairs
abbrev pub pairs_given : (Literal → Bool) → List Pair → Brings
pairs_given counted ps = record { units = sum_by (pair_units counted) ps; atoms = 2 * length ps; nodes = 0 }

-- the pair of two atoms comes to a dictionary
pub record Puts (counted : Literal → Bool) (p : Pair) (before after : Flat (List Pair))
    (h h' : Purse) (r : Result ⊤ NoMemory) : Type 0 where
  pub value : OnOk r (after.value ≡ put in_order before.value p)
  pub kept : OnErr r (after.value ≡ before.value)
  pub alone : before.alone ≡ true → after.alone ≡ true
  pub parted : OnOk r (after.alone ≡ true)
  -- the copies of a storage that is shared, and those of the two atoms
  pub moved : Moves (2 * sum_by (pair_units counted) before.value + pair_units counted p)
      (copies before.alone (2 * length before.value) + 2) h h'
  pub falls : h.spare ≤ h'.spare + (2 * length before.value + 2)
