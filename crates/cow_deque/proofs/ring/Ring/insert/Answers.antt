use Rattle.std.proofs.Common.{◌≡◌, length, ap, refl, ◌∙◌, length-set}
use Rattle.cow_deque.proofs.Rings.{items_of}
use Rattle.cow_deque.proofs.Openings.{gap-filled}
use Rattle.cow_deque.proofs.ring.Ring.insert.Goals as goal

pub put-requires-clause-empty : goal.put-requires-clause-empty
put-requires-clause-empty g c = (gap-filled c.make_gap-head.new.buf c.make_gap-head.result c.args.i c.wrapped-place.result c.args.x c.make_gap-head.ensures.gap (rw c.capacity.ensures at c.wrapped-place.ensures)).0

pub invariant_of-self : goal.invariant_of-self
invariant_of-self g c =
    let it = gap-filled c.make_gap-head.new.buf c.make_gap-head.result c.args.i c.wrapped-place.result c.args.x c.make_gap-head.ensures.gap (rw c.capacity.ensures at c.wrapped-place.ensures) in
    let count : length (items_of c.make_gap-head.new.buf c.make_gap-head.result) ≡ c.self.inside.len = ap length c.make_gap-head.ensures.items ∙ c.self.invariant.packed.count in
    rw c.put.ensures (rw count at it.1)

pub returns : goal.returns
returns g c =
    let it = gap-filled c.make_gap-head.new.buf c.make_gap-head.result c.args.i c.wrapped-place.result c.args.x c.make_gap-head.ensures.gap (rw c.capacity.ensures at c.wrapped-place.ensures) in
    rw (c.put.ensures, it.2, c.make_gap-head.ensures.items, length-set, c.make_gap-head.ensures.places, ← c.self.view_is) refl
