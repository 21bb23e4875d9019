use Rattle.std.proofs.Common.{◌≡◌, ◌+◌, ◌++◌, length, map, All}
use Rattle.cow_deque.proofs.storage.push_all.Given as goal

abbrev pub invariant-loop-x : goal.invariant-loop-x
invariant-loop-x g l =
    record {
      same : map g.T.Item.plain l.ring.items ≡ map g.T.Item.plain l.fn.ring.items ++ map g.T.Item.plain l.yielded;
      count : length l.ring.items ≡ length l.fn.ring.items + length l.yielded;
      settled : All g.T.Item.IsSettled l.ring.items;
      capacity : l.ring.capacity ≡ l.fn.ring.capacity;
    }
