use Rattle.std.proofs.Common.{◌-◌, arith, refl, length-set}
use Rattle.cow_deque.proofs.Rings.{ring-clear, ring-push_front}
use Rattle.cow_deque.proofs.ring.Ring.push_front.Goals as goal

pub put-requires-clause-empty : goal.put-requires-clause-empty
put-requires-clause-empty g c =
    let r = c.self.invariant in let within = rw (← c.self.view_is) at c.requires in
    let w = rw c.capacity-capacity.ensures at c.wrapped-place.ensures in
    ring-clear c.self.inside.buf c.self.inside.head c.self.inside.len (c.capacity-capacity.result - 1) c.wrapped-place.result r (omega (arith, within, r.packed.count, c.capacity-capacity.ensures)) (omega (arith, within, c.capacity-capacity.ensures)) (rw c.capacity-capacity.ensures w)

pub invariant_of-self : goal.invariant_of-self
invariant_of-self g c =
    let r = c.self.invariant in let within = rw (← c.self.view_is) at c.requires in
    rw c.put.ensures (ring-push_front c.self.inside.buf c.self.inside.head c.self.inside.len c.wrapped-place.result c.args.x r (omega (arith, within, r.packed.count)) (rw c.capacity-capacity.ensures at c.wrapped-place.ensures)).0

pub returns : goal.returns
returns g c =
    let r = c.self.invariant in let within = rw (← c.self.view_is) at c.requires in
    rw (c.put.ensures, (ring-push_front c.self.inside.buf c.self.inside.head c.self.inside.len c.wrapped-place.result c.args.x r (omega (arith, within, r.packed.count)) (rw c.capacity-capacity.ensures at c.wrapped-place.ensures)).1, length-set, ← c.self.view_is) refl
