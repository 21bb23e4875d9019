use Rattle.std.proofs.Common.{◌≡◌, arith, ◌∙◌}
use Rattle.cow_row.proofs.Splices.{run-filled, place-blanked, blank-more}
use Rattle.cow_row.proofs.Whole.{all_run, none-left}
use Rattle.cow_row.proofs.row.Row.drop.Goals as goal

pub take-item-requires : goal.take-item-requires
take-item-requires g c =
    let p = c.self.invariant in let cs = c.self.inside.buf in
    let it = run-filled cs c.self.inside.front c.self.inside.len c.loop-i.i (all_run cs c.self.inside.front c.self.inside.len p) (omega arith) in
    (it.0, rw c.loop-i.invariant (place-blanked cs c.self.inside.front c.loop-i.i (omega (arith, p.fits)) ∙ it.1))

pub loop-i-preserved : goal.loop-i-preserved
loop-i-preserved g c = let p = c.self.invariant in let cs = c.self.inside.buf in rw (c.take-item.ensures.places, c.loop-i.invariant) (blank-more cs c.self.inside.front c.loop-i.i (omega (arith, p.fits)))

pub free-requires : goal.free-requires
free-requires g c =
    let p = c.self.invariant in let cs = c.self.inside.buf in
    let done : c.loop-i.i ≡ c.self.inside.len = omega arith in
    rw (c.loop-i.invariant, done) (none-left cs c.self.inside.front c.self.inside.len p)
