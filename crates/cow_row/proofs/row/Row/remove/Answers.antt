use Rattle.std.proofs.Common.{◌≡◌, ◌+◌, ◌-◌, suc, length, remove, refl, sym, ◌∙◌, arith}
use Rattle.std.proofs.lemmas.List.Edits.{length-remove}
use Rattle.cow_row.specs.Places.{somes, packed}
use Rattle.cow_row.proofs.Packed.{is_packed, is_filled, filled_at, somes-packed, length-packed}
use Rattle.cow_row.proofs.Gaps.{removed}
use Rattle.cow_row.proofs.Whole.{run-behind}
use Rattle.cow_row.proofs.row.Row.remove.Goals as goal

pub shift-requires-clause-run : goal.shift-requires-clause-run
shift-requires-clause-run g c =
    let within = rw (← c.self.view_is) at c.requires in
    rw c.take-item.ensures.places (run-behind c.self.inside.buf c.self.inside.front c.self.inside.len c.args.i c.self.invariant (omega (arith, within, c.self.invariant.count)))

pub take-item-requires : goal.take-item-requires
take-item-requires g c = let within = rw (← c.self.view_is) at c.requires in is_filled c.self.inside.buf c.self.inside.front c.self.inside.len c.args.i c.self.invariant (omega (arith, within, c.self.invariant.count))

pub returns-clause-value : goal.returns-clause-value
returns-clause-value g c = let within = rw (← c.self.view_is) at c.requires in rw (← c.self.view_is) (sym (filled_at c.self.inside.buf c.self.inside.front c.self.inside.len c.args.i c.self.invariant (omega (arith, within, c.self.invariant.count))) ∙ c.take-item.ensures.value)

pub invariant_of-self : goal.invariant_of-self
invariant_of-self g c =
    let p = c.self.invariant in
    let xs = somes c.self.inside.buf in
    let within = rw (← c.self.view_is) at c.requires in
    let m = suc (length c.self.inside.buf - (c.self.inside.front + c.self.inside.len)) in
    let long = length-remove xs c.args.i within in
    let places : c.shift.new.self ≡ packed c.self.inside.front (remove xs c.args.i) m = rw (c.shift.ensures, c.take-item.ensures.places) (removed c.self.inside.buf c.self.inside.front c.self.inside.len c.args.i c.take-item.result p (omega (arith, within, p.count)) c.take-item.ensures.value) in
    is_packed c.self.inside.front (remove xs c.args.i) m (c.self.inside.len - 1) c.shift.new.self places (omega (arith, long, p.count)) (omega (arith, long, p.count, p.fits, p.small))

pub returns-clause-row : goal.returns-clause-row
returns-clause-row g c =
    let p = c.self.invariant in
    let f = c.self.inside.front in
    let xs = somes c.self.inside.buf in
    let within = rw (← c.self.view_is) at c.requires in
    let ys = remove xs c.args.i in
    let m = suc (length c.self.inside.buf - (f + c.self.inside.len)) in
    let fewer = length-remove xs c.args.i within in
    let places : c.shift.new.self ≡ packed f ys m = rw (c.shift.ensures, c.take-item.ensures.places) (removed c.self.inside.buf f c.self.inside.len c.args.i c.take-item.result p (omega (arith, within, p.count)) c.take-item.ensures.value) in
    let shown : somes c.shift.new.self ≡ ys = rw places (somes-packed f ys m) in
    let measured : length c.shift.new.self ≡ f + (length ys + m) = rw places (length-packed f ys m) in
    let long : length c.shift.new.self ≡ length c.self.inside.buf = measured ∙ omega (arith, fewer, p.count, p.fits) in
    rw (shown, long, ← c.self.view_is) refl
