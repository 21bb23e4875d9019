use Rattle.std.proofs.Common.{◌≡◌, ◌+◌, length, map, count_by}
use Rattle.cow_deque.proofs.storage.end_items.Given as goal

abbrev pub invariant-loop-x : goal.invariant-loop-x
invariant-loop-x g l =
    record {
      spare : l.h.spare + count_by g.T.Item.is_counted (map g.T.Item.plain l.ring.items) ≡ l.fn.h.spare + count_by g.T.Item.is_counted (map g.T.Item.plain l.fn.ring.items);
      copied : l.h.copied ≡ l.fn.h.copied;
    }

abbrev pub decreases-loop-x : goal.decreases-loop-x
decreases-loop-x g l = length l.ring.items
