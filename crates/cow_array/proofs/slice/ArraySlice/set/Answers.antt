use Rattle.std.proofs.Common.{◌+◌, ◌-◌, ◌<◌, ◌≤◌, length, arith}
use Rattle.cow_row.proofs.Runs.{set-run-plain, get-same-plain, length-run-plain, units-set}
use Rattle.cow_array.proofs.slice.ArraySlice.set.Goals as goal

pub returns-clause-items : goal.returns-clause-items
returns-clause-items g c =
    rw (c.replace.ensures.row, c.only.ensures.value, ← c.self.view_is)
    (set-run-plain g.T.Item.plain c.prepare_run.new.cell.value.items c.self.inside.cell.value.items c.in-Ok.from c.self.inside.from c.self.inside.count (c.args.i - c.self.inside.start) c.settle.new.self c.args.x c.in-Ok.ensures.same c.settle.ensures.same)

pub returns-clause-units : goal.returns-clause-units
returns-clause-units g c =
    let at = c.in-Ok.from + (c.args.i - c.self.inside.start) in
    let above = rw (← c.self.view_is) at c.requires.above in
    let below = rw (← c.self.view_is) at c.requires.below in
    let long = length-run-plain g.T.Item.plain c.self.inside.cell.value.items c.self.inside.from c.self.inside.count c.self.invariant.1 in
    let within : c.args.i - c.self.inside.start < c.self.inside.count = omega (arith, above, below, long) in
    let stop : c.in-Ok.from + c.self.inside.count ≤ length c.prepare_run.new.cell.value.items = c.in-Ok.ensures.within in
    let one = rw c.settle.ensures.same at (units-set g.T.Item.plain g.T.Item.is_counted c.prepare_run.new.cell.value.items at c.settle.new.self (omega (arith, stop, within))) in
    rw (c.replace.ensures.row, c.only.ensures.value, ← c.self.view_is) (omega (arith, one, c.in-Ok.ensures.units))

pub returns-clause-old : goal.returns-clause-old
returns-clause-old g c =
    let above = rw (← c.self.view_is) at c.requires.above in
    let below = rw (← c.self.view_is) at c.requires.below in
    let long = length-run-plain g.T.Item.plain c.self.inside.cell.value.items c.self.inside.from c.self.inside.count c.self.invariant.1 in
    let within : c.args.i - c.self.inside.start < c.self.inside.count = omega (arith, above, below, long) in
    rw (← c.self.view_is)
    (get-same-plain g.T.Item.plain c.prepare_run.new.cell.value.items c.self.inside.cell.value.items c.in-Ok.from c.self.inside.from c.self.inside.count (c.args.i - c.self.inside.start) c.replace.result within c.in-Ok.ensures.same (rw c.only.ensures.value at c.replace.ensures.value))
