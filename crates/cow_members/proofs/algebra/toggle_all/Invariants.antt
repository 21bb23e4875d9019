use Rattle.std.proofs.Common.{◌≡◌, ◌+◌, ◌*◌, ◌≤◌, length, map, take, count_by}
use Rattle.cow_model.specs.Members.{member}
use Rattle.cow_model.specs.Purse.{Moves}
use Rattle.cow_model.specs.declared.plain.Literal.{Literal}
use Rattle.cow_members.specs.Members.{AreSound}
use Rattle.cow_members.specs.Sets.{either, lacking}
use Rattle.cow_members.proofs.algebra.toggle_all.Given as goal

abbrev pub invariant-loop-i : goal.invariant-loop-i
invariant-loop-i g l =
    record {
      sound : AreSound g.K.Item.plain g.K.Key.hash_of g.K.Item.IsSettled l.members;
      capacity : l.members.keys.capacity ≡ l.initial.members.keys.capacity;
      count : length l.members.keys.items ≤ length l.initial.members.keys.items + lacking (map g.K.Item.plain l.initial.members.keys.items) (map g.K.Item.plain (take l.i l.others.keys.items));
      same : (q : Literal) → member q (map g.K.Item.plain l.members.keys.items) ≡ either (member q (map g.K.Item.plain (take l.i l.others.keys.items))) (member q (map g.K.Item.plain l.initial.members.keys.items));
      moved : Moves (count_by g.K.Item.is_counted (map g.K.Item.plain (take l.i l.others.keys.items))) (g.K.Item.WEIGHT * l.i) l.initial.h l.h;
    }
