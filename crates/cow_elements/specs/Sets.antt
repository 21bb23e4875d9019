-- What the statements on sets and on ordered sets share.
use Rattle.std.specs.Prelude.{◌≡◌, ◌+◌, ◌*◌, ◌≤◌, Bool, true, not, List, length, count_by, Result, IfOk, OnOk, OnErr}
use Rattle.cow_model.specs.Flat.{Flat, copies}
use Rattle.cow_model.specs.Members.{Placing, member, with_member}
use Rattle.cow_model.specs.Purse.{Purse, Moves, unit_if}
use Rattle.cow_model.specs.declared.memory.NoMemory.{NoMemory}
use Rattle.cow_model.specs.declared.plain.Literal.{Literal}
use Rattle.cow_members.specs.Sets.{ChangesTo}

-- the element of an atom comes to a set that hasn't it, which is told, and is placed there
pub record Adds (counted : Literal → Bool) (place : Placing) (a : Literal) (before after : Flat (List Literal))
    (h h' : Purse) (r : Result Bool NoMemory) : Type 0 where
  pub told : IfOk r (λ is_new. is_new ≡ not (member a before.value))
  pub value : OnOk r (ChangesTo (with_member place before.value a) before after)
  pub kept : OnErr r (after.value ≡ before.value)
  pub alone : before.alone ≡ true → after.alone ≡ true
  -- the copies of a storage that is shared, and the atom's own
  pub moved : Moves (2 * count_by counted before.value + unit_if (counted a))
      (copies before.alone (length before.value) + 1) h h'
  pub falls : h.spare ≤ h'.spare + (length before.value + 1)
