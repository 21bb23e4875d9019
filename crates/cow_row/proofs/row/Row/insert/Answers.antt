use Rattle.std.proofs.Common.{◌≡◌, ◌+◌, ◌-◌, length, take, drop, insert, refl, ◌∙◌, arith}
use Rattle.std.proofs.lemmas.List.{length-take-le}
use Rattle.std.proofs.lemmas.List.Edits.{length-insert}
use Rattle.cow_row.specs.Places.{somes, packed}
use Rattle.cow_row.proofs.Packed.{is_packed, somes-packed, length-packed}
use Rattle.cow_row.proofs.Gaps.{opened, inserted, place-gap}
use Rattle.cow_row.proofs.Splices.{is_run}
use Rattle.cow_row.proofs.row.Row.insert.Goals as goal

pub shift-requires-clause-run : goal.shift-requires-clause-run
shift-requires-clause-run g c =
    let place = rw (← c.self.view_is) at c.requires.place in
    is_run c.self.inside.buf c.self.inside.front c.self.inside.len c.args.i (c.self.inside.len - c.args.i) c.self.invariant (omega (arith, place, c.self.invariant.count))

pub put-requires-clause-empty : goal.put-requires-clause-empty
put-requires-clause-empty g c =
    let p = c.self.invariant in
    let xs = somes c.self.inside.buf in
    let place = rw (← c.self.view_is) at c.requires.place in
    let room = rw (← c.self.view_is) at c.requires.room in
    rw (c.shift.ensures, opened c.self.inside.buf c.self.inside.front c.self.inside.len c.args.i p (omega (arith, place, p.count)) (omega (arith, room, p.count)))
    (place-gap c.self.inside.front (take c.args.i xs) 0 (drop c.args.i xs) (length c.self.inside.buf - (c.self.inside.front + c.self.inside.len) - 1) (c.self.inside.front + c.args.i) (omega (arith, length-take-le c.args.i xs (omega (arith, place)))))

pub invariant_of-self : goal.invariant_of-self
invariant_of-self g c =
    let p = c.self.invariant in
    let xs = somes c.self.inside.buf in
    let place = rw (← c.self.view_is) at c.requires.place in
    let room = rw (← c.self.view_is) at c.requires.room in
    let m = length c.self.inside.buf - (c.self.inside.front + c.self.inside.len) - 1 in
    let long = length-insert xs c.args.i c.args.x (omega (arith, place)) in
    let places : c.put.new.self ≡ packed c.self.inside.front (insert xs c.args.i c.args.x) m = rw (c.put.ensures, c.shift.ensures) (inserted c.self.inside.buf c.self.inside.front c.self.inside.len c.args.i c.args.x p (omega (arith, place, p.count)) (omega (arith, room, p.count))) in
    is_packed c.self.inside.front (insert xs c.args.i c.args.x) m (c.self.inside.len + 1) c.put.new.self places (omega (arith, long, p.count)) (omega (arith, long, p.count, p.fits, p.small, room))

pub returns : goal.returns
returns g c =
    let p = c.self.invariant in
    let f = c.self.inside.front in
    let xs = somes c.self.inside.buf in
    let place = rw (← c.self.view_is) at c.requires.place in
    let room = rw (← c.self.view_is) at c.requires.room in
    let ys = insert xs c.args.i c.args.x in
    let m = length c.self.inside.buf - (f + c.self.inside.len) - 1 in
    let grown = length-insert xs c.args.i c.args.x (omega (arith, place)) in
    let places : c.put.new.self ≡ packed f ys m = rw (c.put.ensures, c.shift.ensures) (inserted c.self.inside.buf f c.self.inside.len c.args.i c.args.x p (omega (arith, place, p.count)) (omega (arith, room, p.count))) in
    let shown : somes c.put.new.self ≡ ys = rw places (somes-packed f ys m) in
    let measured : length c.put.new.self ≡ f + (length ys + m) = rw places (length-packed f ys m) in
    let long : length c.put.new.self ≡ length c.self.inside.buf = measured ∙ omega (arith, grown, p.count, p.fits, room) in
    rw (shown, long, ← c.self.view_is) refl
