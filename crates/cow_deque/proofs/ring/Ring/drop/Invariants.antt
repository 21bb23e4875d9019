use Rattle.std.proofs.Common.{length}
use Rattle.cow_deque.proofs.ring.Ring.drop.Given as goal

abbrev pub decreases-loop-item : goal.decreases-loop-item
decreases-loop-item g l = length l.ring.items
