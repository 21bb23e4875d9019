use Rattle.std.proofs.Common.{arith}
use Rattle.cow_row.proofs.Splices.{is_run}
use Rattle.cow_row.proofs.Whole.{shown_run}
use Rattle.cow_row.proofs.row.Row.run.Goals as goal

pub run-requires : goal.run-requires
run-requires g c =
    let within = rw (← c.self.view_is) at c.requires in let p = c.self.invariant in
    is_run c.self.inside.buf c.self.inside.front c.self.inside.len c.args.start c.args.count p (omega (arith, within, p.count))

pub returns : goal.returns
returns g c =
    let within = rw (← c.self.view_is) at c.requires in let p = c.self.invariant in
    rw (← c.self.view_is) (shown_run c.self.inside.buf c.self.inside.front c.self.inside.len c.args.start c.args.count c.run.result.now p (omega (arith, within, p.count)) c.run.ensures)
