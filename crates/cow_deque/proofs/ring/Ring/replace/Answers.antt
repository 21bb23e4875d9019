use Rattle.std.proofs.Common.{arith, refl, sym, ◌∙◌, length-set}
use Rattle.cow_row.proofs.Packed.{set-set}
use Rattle.cow_deque.proofs.Rings.{ring-at, ring-filled, ring-set}
use Rattle.cow_deque.proofs.ring.Ring.replace.Goals as goal

pub take-old-requires : goal.take-old-requires
take-old-requires g c =
    let r = c.self.invariant in let within = rw (← c.self.view_is) at c.requires in
    ring-filled c.self.inside.buf c.self.inside.head c.self.inside.len c.args.i c.wrapped-place.result r (omega (arith, within, r.packed.count)) (rw c.capacity.ensures at c.wrapped-place.ensures)

pub invariant_of-self : goal.invariant_of-self
invariant_of-self g c =
    let r = c.self.invariant in let within = rw (← c.self.view_is) at c.requires in
    rw (c.put.ensures, c.take-old.ensures.places, set-set) (ring-set c.self.inside.buf c.self.inside.head c.self.inside.len c.args.i c.wrapped-place.result c.args.x r (omega (arith, within, r.packed.count)) (rw c.capacity.ensures at c.wrapped-place.ensures)).0

pub returns-clause-value : goal.returns-clause-value
returns-clause-value g c =
    let r = c.self.invariant in let within = rw (← c.self.view_is) at c.requires in
    rw (← c.self.view_is) (sym (ring-at c.self.inside.buf c.self.inside.head c.self.inside.len c.args.i c.wrapped-place.result r (omega (arith, within, r.packed.count)) (rw c.capacity.ensures at c.wrapped-place.ensures)) ∙ c.take-old.ensures.value)

pub returns-clause-ring : goal.returns-clause-ring
returns-clause-ring g c =
    let r = c.self.invariant in let within = rw (← c.self.view_is) at c.requires in
    rw (c.put.ensures, c.take-old.ensures.places, set-set, (ring-set c.self.inside.buf c.self.inside.head c.self.inside.len c.args.i c.wrapped-place.result c.args.x r (omega (arith, within, r.packed.count)) (rw c.capacity.ensures at c.wrapped-place.ensures)).1, length-set, ← c.self.view_is) refl
