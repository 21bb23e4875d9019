use Rattle.std.proofs.Common.{arith, sym, ◌∙◌}
use Rattle.cow_deque.proofs.Rings.{ring-at, ring-filled}
use Rattle.cow_deque.proofs.ring.Ring.get.Goals as goal

pub at-requires : goal.at-requires
at-requires g c =
    let r = c.self.invariant in let within = rw (← c.self.view_is) at c.requires in
    ring-filled c.self.inside.buf c.self.inside.head c.self.inside.len c.args.i c.wrapped-place.result r (omega (arith, within, r.packed.count)) (rw c.capacity.ensures at c.wrapped-place.ensures)

pub returns : goal.returns
returns g c =
    let r = c.self.invariant in let within = rw (← c.self.view_is) at c.requires in
    rw (← c.self.view_is) (sym (ring-at c.self.inside.buf c.self.inside.head c.self.inside.len c.args.i c.wrapped-place.result r (omega (arith, within, r.packed.count)) (rw c.capacity.ensures at c.wrapped-place.ensures)) ∙ c.at.ensures)
