use Rattle.std.proofs.Common.{◌≡◌, length, refl, arith}
use Rattle.cow_deque.proofs.Rings.{ring-turned}
use Rattle.cow_deque.proofs.ring.Ring.rotate.Goals as goal

pub invariant_of-self : goal.invariant_of-self
invariant_of-self g c =
    let r = c.self.invariant in let k = rw (← c.self.view_is) at c.requires in
    let n = rw (← c.self.view_is) at c.len-len.ensures.value in
    let long = rw (← c.self.view_is) at c.capacity.ensures.value in
    let full : c.len-len.result ≡ length c.self.inside.buf = omega (arith, long, c.if-len-capacity.true) in
    (ring-turned c.self.inside.buf c.self.inside.head c.self.inside.len c.args.k c.wrapped-self-inside.result r (omega (arith, full, n, r.packed.count)) (omega (arith, k, n, r.packed.count, c.if-k-len.false)) (rw full at c.wrapped-self-inside.ensures)).0

pub returns-then-len-capacity : goal.returns-then-len-capacity
returns-then-len-capacity g c =
    let r = c.self.invariant in let k = rw (← c.self.view_is) at c.requires in
    let n = rw (← c.self.view_is) at c.len-len.ensures.value in
    let long = rw (← c.self.view_is) at c.capacity.ensures.value in
    let full : c.len-len.result ≡ length c.self.inside.buf = omega (arith, long, c.if-len-capacity.true) in
    rw ((ring-turned c.self.inside.buf c.self.inside.head c.self.inside.len c.args.k c.wrapped-self-inside.result r (omega (arith, full, n, r.packed.count)) (omega (arith, k, n, r.packed.count, c.if-k-len.false)) (rw full at c.wrapped-self-inside.ensures)).1, ← c.self.view_is) refl
