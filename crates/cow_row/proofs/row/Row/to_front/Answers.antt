use Rattle.std.proofs.Common.{◌≡◌, ◌+◌, ◌-◌, length, refl, sym, ◌∙◌, arith}
use Rattle.cow_row.specs.Places.{somes, packed}
use Rattle.cow_row.proofs.Packed.{is_packed, somes-packed, length-packed}
use Rattle.cow_row.proofs.Gaps.{fronted}
use Rattle.cow_row.proofs.Whole.{all_run}
use Rattle.cow_row.proofs.row.Row.to_front.Goals as goal

pub shift-requires-clause-run : goal.shift-requires-clause-run
shift-requires-clause-run g c = all_run c.self.inside.buf c.self.inside.front c.self.inside.len c.self.invariant

pub invariant_of-self : goal.invariant_of-self
invariant_of-self g c =
    let p = c.self.invariant in
    is_packed 0 (somes c.self.inside.buf) (length c.self.inside.buf - c.self.inside.len) c.self.inside.len c.shift.new.self (c.shift.ensures ∙ fronted c.self.inside.buf c.self.inside.front c.self.inside.len p) (sym p.count) (omega (arith, p.count, p.fits, p.small))

pub returns : goal.returns
returns g c =
    let p = c.self.invariant in
    let xs = somes c.self.inside.buf in
    let m = length c.self.inside.buf - c.self.inside.len in
    let places : c.shift.new.self ≡ packed 0 xs m = c.shift.ensures ∙ fronted c.self.inside.buf c.self.inside.front c.self.inside.len p in
    let shown : somes c.shift.new.self ≡ xs = rw places (somes-packed 0 xs m) in
    let measured : length c.shift.new.self ≡ 0 + (length xs + m) = rw places (length-packed 0 xs m) in
    let whole : length c.shift.new.self - 0 ≡ c.self.inside.front + (length c.self.inside.buf - c.self.inside.front) = omega (arith, measured, p.count, p.fits) in
    rw (shown, whole, ← c.self.view_is) refl
