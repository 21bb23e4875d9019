use Rattle.std.proofs.Common.{◌≡◌, ◌-◌, length}
use Rattle.cow_deque.specs.Rings.{turned}
use Rattle.cow_deque.proofs.ring.Ring.to_front.Given as goal

abbrev pub invariant-loop-i : goal.invariant-loop-i
invariant-loop-i g l =
    record {
      items : l.self.items ≡ turned (length l.fn.self.items - l._i) l.fn.self.items;
      front : l.self.front ≡ l.fn.self.front;
      capacity : l.self.capacity ≡ l.fn.self.capacity;
    }
