use Rattle.std.proofs.Common.{◌-◌, arith}
use Rattle.cow_deque.proofs.Rings.{one-run, two-runs}
use Rattle.cow_deque.proofs.ring.Ring.as_slices.Goals as goal

pub run-all-requires : goal.run-all-requires
run-all-requires g c = (one-run c.self.inside.buf c.self.inside.head c.self.inside.len c.self.invariant (omega (arith, c.capacity.ensures))).0

pub returns-then-self-to_end : goal.returns-then-self-to_end
returns-then-self-to_end g c =
    rw (← c.self.view_is) ((one-run c.self.inside.buf c.self.inside.head c.self.inside.len c.self.invariant (omega (arith, c.capacity.ensures))).1 c.run-all.result.now c.run-none.result.now c.run-all.ensures c.run-none.ensures)

pub run-front-requires : goal.run-front-requires
run-front-requires g c = (two-runs c.self.inside.buf c.self.inside.head c.self.inside.len (c.capacity.result - c.self.inside.head) (c.self.inside.len - (c.capacity.result - c.self.inside.head)) c.self.invariant (omega (arith, c.capacity.ensures)) (omega arith) (omega arith)).0

pub run-rest-requires : goal.run-rest-requires
run-rest-requires g c = (two-runs c.self.inside.buf c.self.inside.head c.self.inside.len (c.capacity.result - c.self.inside.head) (c.self.inside.len - (c.capacity.result - c.self.inside.head)) c.self.invariant (omega (arith, c.capacity.ensures)) (omega arith) (omega arith)).1

pub returns : goal.returns
returns g c =
    rw (← c.self.view_is) ((two-runs c.self.inside.buf c.self.inside.head c.self.inside.len (c.capacity.result - c.self.inside.head) (c.self.inside.len - (c.capacity.result - c.self.inside.head)) c.self.invariant (omega (arith, c.capacity.ensures)) (omega arith) (omega arith)).2 c.run-front.result.now c.run-rest.result.now c.run-front.ensures c.run-rest.ensures)
