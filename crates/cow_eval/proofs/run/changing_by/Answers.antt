use Rattle.std.proofs.Common.{rules, ◌≡◌}
use Rattle.std.specs.Prelude.{⊤}
use Rattle.cow_model.specs.Step as spec
use Rattle.cow_model.specs.declared.statement.Statement.{out-Statement}
use Rattle.cow_eval.specs.Envs.{env_of}
use Rattle.cow_eval.proofs.ByOther.{by-other}
use Rattle.cow_eval.proofs.Costs.{brings-less, reads-only}
use Rattle.cow_eval.proofs.Reading.{asking-free}
use Rattle.cow_eval.proofs.run.changing_by.Goals as goal

pub returns-in_default : goal.returns-in_default
returns-in_default g c =
    let s = out-Statement c.args.statement.now in
    let same : spec.changing_by (env_of c.args.env.now) s ≡ spec.asking (env_of c.args.env.now) s = search rules in
    rw same (reads-only _ c.args.h.now (asking-free (env_of c.args.env.now) s) c.asking.ensures)

pub returns-in-Extend : goal.returns-in-Extend
returns-in-Extend g c =
    let row = by-other (env_of c.args.env.now) c.args.statement.now c.in-Extend.name c.in-Extend.other c.in-Extend.is in
    let did = rw (c.as_slice.ensures, c.as_slice-in-Extend.ensures) at c.turn_by.ensures in
    rw (row.0, row.1) (brings-less ⊤ _ (λ zero. _) did)
