use Rattle.std.proofs.Common.{◌≡◌, ◌+◌, ◌-◌, length, length-set, swap, None, refl, arith}
use Rattle.std.proofs.lemmas.List.{get_or-set_other}
use Rattle.std.proofs.lemmas.List.Edits.{length-swap}
use Rattle.cow_row.specs.Places.{somes}
use Rattle.cow_row.proofs.Packed.{is_filled, is_packed, exchanged, somes-packed}
use Rattle.cow_row.proofs.row.Row.swap.Goals as goal

pub take-x-requires : goal.take-x-requires
take-x-requires g c = let within = rw (← c.self.view_is) at c.requires.first in is_filled c.self.inside.buf c.self.inside.front c.self.inside.len c.args.i c.self.invariant (omega (arith, within, c.self.invariant.count))

pub take-y-requires : goal.take-y-requires
take-y-requires g c =
    let within = rw (← c.self.view_is) at c.requires.second in
    let it = is_filled c.self.inside.buf c.self.inside.front c.self.inside.len c.args.j c.self.invariant (omega (arith, within, c.self.invariant.count)) in
    (it.0, rw (c.take-x.ensures.places, get_or-set_other c.self.inside.buf (c.self.inside.front + c.args.i) (c.self.inside.front + c.args.j) None None (λ e. absurd (omega (arith, e)))) it.1)

pub invariant_of-self : goal.invariant_of-self
invariant_of-self g c =
    let p = c.self.invariant in
    let xs = somes c.self.inside.buf in
    let li = rw (← c.self.view_is) at c.requires.first in
    let lj = rw (← c.self.view_is) at c.requires.second in
    let long = length-swap xs c.args.i c.args.j in
    let places = exchanged c.self.inside.buf c.take-x.new.self c.take-y.new.self c.put.new.self c.put-2.new.self c.self.inside.front c.self.inside.len c.args.i c.args.j c.take-x.result c.take-y.result p (omega (arith, li, p.count)) (omega (arith, lj, p.count)) (λ e. absurd (omega (arith, e)))
    c.take-x.ensures.value c.take-x.ensures.places c.take-y.ensures.value c.take-y.ensures.places c.put.ensures c.put-2.ensures in
    is_packed c.self.inside.front (swap xs c.args.i c.args.j) (length c.self.inside.buf - (c.self.inside.front + c.self.inside.len)) c.self.inside.len c.put-2.new.self places (omega (arith, long, p.count)) (omega (arith, long, p.count, p.fits, p.small))

pub returns : goal.returns
returns g c =
    let p = c.self.invariant in
    let xs = somes c.self.inside.buf in
    let li = rw (← c.self.view_is) at c.requires.first in
    let lj = rw (← c.self.view_is) at c.requires.second in
    let m = length c.self.inside.buf - (c.self.inside.front + c.self.inside.len) in
    let places = exchanged c.self.inside.buf c.take-x.new.self c.take-y.new.self c.put.new.self c.put-2.new.self c.self.inside.front c.self.inside.len c.args.i c.args.j c.take-x.result c.take-y.result p (omega (arith, li, p.count)) (omega (arith, lj, p.count)) (λ e. absurd (omega (arith, e)))
    c.take-x.ensures.value c.take-x.ensures.places c.take-y.ensures.value c.take-y.ensures.places c.put.ensures c.put-2.ensures in
    let shown : somes c.put-2.new.self ≡ swap xs c.args.i c.args.j = rw places (somes-packed c.self.inside.front (swap xs c.args.i c.args.j) m) in
    let long : length c.put-2.new.self ≡ length c.self.inside.buf = simp (c.put-2.ensures, c.put.ensures, c.take-y.ensures.places, c.take-x.ensures.places, length-set) in
    rw (shown, long, ← c.self.view_is) refl
