use Rattle.cow_deque.proofs.Rings.{none-left}
use Rattle.cow_deque.proofs.ring.Ring.free.Goals as goal

pub free-requires : goal.free-requires
free-requires g c = none-left c.self.inside.buf c.self.inside.head c.self.inside.len c.self.invariant (rw (← c.self.view_is) at c.requires)
