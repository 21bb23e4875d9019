use Rattle.std.proofs.Common.{arith, refl, length-set}
use Rattle.cow_deque.proofs.Rings.{ring-clear, ring-push}
use Rattle.cow_deque.proofs.ring.Ring.push.Goals as goal

pub put-requires-clause-empty : goal.put-requires-clause-empty
put-requires-clause-empty g c =
    let r = c.self.invariant in let within = rw (← c.self.view_is) at c.requires in let n = c.self.inside.len in
    ring-clear c.self.inside.buf c.self.inside.head n n c.wrapped-place.result r (omega arith) (omega (arith, within, r.packed.count)) (rw c.capacity.ensures at c.wrapped-place.ensures)

pub invariant_of-self : goal.invariant_of-self
invariant_of-self g c =
    let r = c.self.invariant in let within = rw (← c.self.view_is) at c.requires in
    rw c.put.ensures (ring-push c.self.inside.buf c.self.inside.head c.self.inside.len c.wrapped-place.result c.args.x r (omega (arith, within, r.packed.count)) (rw c.capacity.ensures at c.wrapped-place.ensures)).0

pub returns : goal.returns
returns g c =
    let r = c.self.invariant in let within = rw (← c.self.view_is) at c.requires in
    rw (c.put.ensures, (ring-push c.self.inside.buf c.self.inside.head c.self.inside.len c.wrapped-place.result c.args.x r (omega (arith, within, r.packed.count)) (rw c.capacity.ensures at c.wrapped-place.ensures)).1, length-set, ← c.self.view_is) refl
