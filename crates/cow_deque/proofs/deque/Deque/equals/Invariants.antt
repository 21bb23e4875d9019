use Rattle.std.proofs.Common.{◌≡◌, map, take}
use Rattle.cow_deque.proofs.deque.Deque.equals.Given as goal

abbrev pub invariant-loop-i : goal.invariant-loop-i
invariant-loop-i g l = map g.T.Item.plain (take l.i l.left.items) ≡ map g.T.Item.plain (take l.i l.right.items)
