use Rattle.std.proofs.Common.{length, ap, refl, sym, ◌∙◌, arith, length-set}
use Rattle.std.proofs.lemmas.List.Edits.{length-remove}
use Rattle.cow_deque.proofs.Rings.{items_of, ring-at, ring-filled}
use Rattle.cow_deque.proofs.Openings.{gap-taken}
use Rattle.cow_deque.proofs.ring.Ring.remove.Goals as goal

pub take-item-requires : goal.take-item-requires
take-item-requires g c =
    let r = c.self.invariant in let within = rw (← c.self.view_is) at c.requires in
    ring-filled c.self.inside.buf c.self.inside.head c.self.inside.len c.args.i c.wrapped-place.result r (omega (arith, within, r.packed.count)) (rw c.capacity.ensures at c.wrapped-place.ensures)

pub close_gap-head-requires-clause-gap : goal.close_gap-head-requires-clause-gap
close_gap-head-requires-clause-gap g c =
    let r = c.self.invariant in let within = rw (← c.self.view_is) at c.requires in
    rw c.take-item.ensures.places (gap-taken c.self.inside.buf c.self.inside.head c.self.inside.len c.args.i c.wrapped-place.result c.take-item.result r (omega (arith, within, r.packed.count)) (rw c.capacity.ensures at c.wrapped-place.ensures) c.take-item.ensures.value).0

pub close_gap-head-requires-clause-count : goal.close_gap-head-requires-clause-count
close_gap-head-requires-clause-count g c =
    let r = c.self.invariant in let within = rw (← c.self.view_is) at c.requires in
    let it = gap-taken c.self.inside.buf c.self.inside.head c.self.inside.len c.args.i c.wrapped-place.result c.take-item.result r (omega (arith, within, r.packed.count)) (rw c.capacity.ensures at c.wrapped-place.ensures) c.take-item.ensures.value in
    rw c.take-item.ensures.places (omega (arith, ap length it.1, length-remove (items_of c.self.inside.buf c.self.inside.head) c.args.i within, r.packed.count))

pub returns-clause-value : goal.returns-clause-value
returns-clause-value g c =
    let r = c.self.invariant in let within = rw (← c.self.view_is) at c.requires in
    rw (← c.self.view_is) (sym (ring-at c.self.inside.buf c.self.inside.head c.self.inside.len c.args.i c.wrapped-place.result r (omega (arith, within, r.packed.count)) (rw c.capacity.ensures at c.wrapped-place.ensures)) ∙ c.take-item.ensures.value)

pub returns-clause-ring : goal.returns-clause-ring
returns-clause-ring g c =
    let r = c.self.invariant in let within = rw (← c.self.view_is) at c.requires in
    let it = gap-taken c.self.inside.buf c.self.inside.head c.self.inside.len c.args.i c.wrapped-place.result c.take-item.result r (omega (arith, within, r.packed.count)) (rw c.capacity.ensures at c.wrapped-place.ensures) c.take-item.ensures.value in
    rw (c.close_gap-head.ensures.items, c.close_gap-head.ensures.places, c.take-item.ensures.places, it.1, length-set, ← c.self.view_is) refl
