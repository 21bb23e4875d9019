use Rattle.cow_model.specs.declared.statement.Statement as statement
use Rattle.cow_model.specs.declared.statement.Statement.{out-Statement}
use Rattle.cow_eval.specs.Envs.{env_of}
use Rattle.cow_eval.proofs.Costs.{brings-less, reads-only}
use Rattle.cow_eval.proofs.Steps.{shows-free}
use Rattle.cow_eval.proofs.run.act.Goals as goal

pub returns-in-Let-clause-step : goal.returns-in-Let-clause-step
unfolding statement.out-Statement denote.Hole.Carrier.out
returns-in-Let-clause-step g c =
    let did = rw (c.as_slice-atoms.ensures, c.as_slice.ensures) at c.make.ensures.step in
    rw c.in-Let.is (brings-less _ _ (λ none. (none.flat, none.plain)) did)

pub returns-in-Show-clause-step : goal.returns-in-Show-clause-step
unfolding statement.out-Statement denote.Hole.Carrier.out
returns-in-Show-clause-step g c =
    let did = rw c.as_slice-in-Show.ensures at c.show.ensures in
    rw c.in-Show.is (reads-only _ c.args.h.now (shows-free (env_of c.args.env.now) _) did)
