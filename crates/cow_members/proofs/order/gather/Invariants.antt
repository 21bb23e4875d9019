use Rattle.std.proofs.Common.{◌≡◌, ℕ, ◌≤◌, length, map, take, count_by, slice_get}
use Rattle.cow_members.specs.Members.{AreSound}
use Rattle.cow_members.specs.Orders.{staying}
use Rattle.cow_members.specs.Sets.{kept_by}
use Rattle.cow_members.proofs.order.gather.Given as goal

abbrev pub invariant-loop-i : goal.invariant-loop-i
invariant-loop-i g l =
    record {
      sound : AreSound g.K.Item.plain g.K.Key.hash_of g.K.Item.IsSettled l.members;
      count : length l.members.keys.items ≡ length l.initial.members.keys.items;
      capacity : l.members.keys.capacity ≡ l.initial.members.keys.capacity;
      within : l.kept ≤ l.i;
      front : take l.kept (map g.K.Item.plain l.members.keys.items)
          ≡ staying (kept_by l.keep (map g.K.Item.plain l.others.keys.items)) l.end (take l.i (map g.K.Item.plain l.initial.members.keys.items));
      rest : (q : ℕ) → l.i ≤ q → slice_get l.members.keys.items q ≡ slice_get l.initial.members.keys.items q;
      units : count_by g.K.Item.is_counted (map g.K.Item.plain l.members.keys.items) ≡ count_by g.K.Item.is_counted (map g.K.Item.plain l.initial.members.keys.items);
    }
