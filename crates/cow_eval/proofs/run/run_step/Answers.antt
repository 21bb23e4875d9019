use Rattle.std.proofs.Common.{[]}
use Rattle.cow_model.specs.declared.statement.Statement.{out-Statement}
use Rattle.cow_eval.specs.Envs.{SeenEnv}
use Rattle.cow_eval.proofs.Ready.{near-next, ready-next, rises-by}
use Rattle.cow_eval.proofs.run.run_step.Goals as goal

pub returns-clause-next : goal.returns-clause-next
returns-clause-next g c = λ n ready.
    let before : SeenEnv = record { names = c.env.inside.names.items; room = c.env.inside.room; allowed = c.env.inside.allowed } in
    ready-next n before c.act.new.env c.args.h.now c.act.new.h [] (out-Statement c.args.statement.now) c.env.invariant (rw (← c.env.view_is) at ready) c.requires.statement.few c.act.ensures.step.costs.falls c.act.result (rw c.literals.ensures at c.act.ensures.step.env)

pub returns-clause-rises : goal.returns-clause-rises
returns-clause-rises g c =
    let before : SeenEnv = record { names = c.env.inside.names.items; room = c.env.inside.room; allowed = c.env.inside.allowed } in
    rw (← c.env.view_is) (rises-by before c.act.new.env [] (out-Statement c.args.statement.now) c.env.invariant c.requires.statement.few c.act.result (rw c.literals.ensures at c.act.ensures.step.env) (rw c.literals.ensures at c.act.ensures.step.most))

pub returns-clause-near : goal.returns-clause-near
returns-clause-near g c = λ n low close.
    let before : SeenEnv = record { names = c.env.inside.names.items; room = c.env.inside.room; allowed = c.env.inside.allowed } in
    near-next n before c.act.new.env [] (out-Statement c.args.statement.now) c.env.invariant c.requires.statement.few low (rw (← c.env.view_is) at close) c.act.result (rw c.literals.ensures at c.act.ensures.step.env)
