use Rattle.std.proofs.Common.{◌-◌, suc, ◌≡◌, arith, length-set}
use Rattle.cow_deque.specs.Rings.{IsRing}
use Rattle.cow_deque.proofs.Rings.{fits-ring, ring-filled, ring-pop_front}
use Rattle.cow_deque.proofs.ring.Ring.pop_front.Goals as goal

pub take-first-requires : goal.take-first-requires
take-first-requires g c =
    ring-filled c.self.inside.buf c.self.inside.head c.self.inside.len 0 c.wrapped-place.result c.self.invariant (omega arith) (rw c.capacity.ensures at c.wrapped-place.ensures)

pub invariant_of-self : goal.invariant_of-self
invariant_of-self g c =
    let more : c.self.inside.len ≡ suc (c.self.inside.len - 1) = omega arith in
    let r : IsRing c.self.inside.buf c.self.inside.head (suc (c.self.inside.len - 1)) = rw (← more) c.self.invariant in
    rw c.take-first.ensures.places (ring-pop_front c.self.inside.buf c.self.inside.head (c.self.inside.len - 1) c.wrapped-place.result c.take-first.result r (rw c.capacity.ensures at c.wrapped-place.ensures) c.take-first.ensures.value).0

pub returns-clause-value : goal.returns-clause-value
returns-clause-value g c =
    let more : c.self.inside.len ≡ suc (c.self.inside.len - 1) = omega arith in
    let r : IsRing c.self.inside.buf c.self.inside.head (suc (c.self.inside.len - 1)) = rw (← more) c.self.invariant in
    rw (← c.self.view_is, c.take-first.ensures.places) (ring-pop_front c.self.inside.buf c.self.inside.head (c.self.inside.len - 1) c.wrapped-place.result c.take-first.result r (rw c.capacity.ensures at c.wrapped-place.ensures) c.take-first.ensures.value).1

pub returns-clause-room : goal.returns-clause-room
returns-clause-room g c =
    let more : c.self.inside.len ≡ suc (c.self.inside.len - 1) = omega arith in
    let r : IsRing c.self.inside.buf c.self.inside.head (suc (c.self.inside.len - 1)) = rw (← more) c.self.invariant in
    let it = ring-pop_front c.self.inside.buf c.self.inside.head (c.self.inside.len - 1) c.wrapped-place.result c.take-first.result r (rw c.capacity.ensures at c.wrapped-place.ensures) c.take-first.ensures.value in
    rw (c.take-first.ensures.places, length-set) (omega (arith, it.0.packed.count, fits-ring c.self.inside.buf c.self.inside.head (suc (c.self.inside.len - 1)) r))
