use Rattle.std.proofs.Common.{◌≡◌, ◌+◌, ◌-◌, arith}
use Rattle.cow_array.proofs.array.Array.replace.Goals as goal

pub returns-clause-paid : goal.returns-clause-paid
returns-clause-paid g c =
    let e : c.args.i + (c.args.j - c.args.i) ≡ c.args.j = omega (arith, c.requires.order) in
    rw (← c.self.view_is) (rw e at c.replace_run.ensures.paid)
