use Rattle.std.proofs.Common.{◌≡◌, ◌*◌, ◌≤◌, map, take, count_by}
use Rattle.cow_model.specs.Members.{last, union}
use Rattle.cow_model.specs.Purse.{Moves}
use Rattle.cow_members.specs.Members.{AreSound}
use Rattle.cow_members.proofs.algebra.add_missing.Given as goal

abbrev pub invariant-loop-i : goal.invariant-loop-i
invariant-loop-i g l =
    record {
      sound : AreSound g.K.Item.plain g.K.Key.hash_of g.K.Item.IsSettled l.members;
      same : map g.K.Item.plain l.members.keys.items ≡ union last (map g.K.Item.plain l.initial.members.keys.items) (map g.K.Item.plain (take l.i l.others.keys.items));
      capacity : l.members.keys.capacity ≡ l.initial.members.keys.capacity;
      moved : Moves (count_by g.K.Item.is_counted (map g.K.Item.plain (take l.i l.others.keys.items))) (g.K.Item.WEIGHT * l.i) l.initial.h l.h;
      no_gain : l.h.spare ≤ l.initial.h.spare;
    }
