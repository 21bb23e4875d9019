use Rattle.std.proofs.Common.{arith}
use Rattle.cow_model.specs.declared.statement.Statement.{out-Statement}
use Rattle.cow_model.proofs.Costs.{added-most}
use Rattle.cow_eval.proofs.entry.Entry.added.Goals as goal

pub returns-clause-small : goal.returns-clause-small
returns-clause-small g c =
    let most = added-most (out-Statement c.args.statement.now) (g.V.Shown.seen c.self.inside.value).value c.self.invariant.small in
    let small = c.self.invariant.small in
    omega (arith, most, small, c.added.ensures)
