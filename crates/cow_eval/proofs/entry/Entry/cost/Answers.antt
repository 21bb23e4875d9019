use Rattle.std.proofs.Common.{arith}
use Rattle.cow_model.specs.declared.statement.Statement.{out-Statement}
use Rattle.cow_model.proofs.Costs.{cost-most}
use Rattle.cow_eval.proofs.entry.Entry.cost.Goals as goal

pub returns-clause-small : goal.returns-clause-small
returns-clause-small g c =
    let most = cost-most (out-Statement c.args.statement.now) c.self.inside.alone (g.V.Shown.seen c.self.inside.value).value in
    let small = c.self.invariant.small in
    omega (arith, most, small, c.cost.ensures)
