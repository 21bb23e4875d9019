use Rattle.std.proofs.Common.{◌++◌, map, ap, ◌∙◌, subst}
use Rattle.std.proofs.lemmas.Result.{err_from_is_err_and}
use Rattle.cow_model.specs.Run.{run_one}
use Rattle.cow_eval.specs.Envs.{env_of}
use Rattle.cow_run.specs.Output.{WritesFront}
use Rattle.cow_run.proofs.Ran.{front_none}
use Rattle.cow_run.proofs.run.run_and_write.Goals as goal

pub returns-in_err-write_all-clause-err : goal.returns-in_err-write_all-clause-err
returns-in_err-write_all-clause-err g c =
    let p = err_from_is_err_and c.from_residual-in_err-write_all.result c.from_residual-in_err-write_all.ensures.1 in
    let held = g.K.Sink.held in
    let all = map (λ rule. (goal.Rule-dyn g (rule.vtable, rule.value)).shape_of rule.value) c.args.rules.now.items in
    let added = ap (λ z. z ++ (run_one (env_of c.args.env.now) all c.args.statement.now).text) c.clear.ensures.items in
    let whole = c.in_ok-run_statement.ensures.step.text ∙ added in
    rw p.1 (subst (WritesFront (held c.args.sink.now) (held c.write_all.new.sink)) (c.deref.ensures.value ∙ whole) c.in_err-write_all.ensures.err)

pub returns-in_err-run_statement-clause-err : goal.returns-in_err-run_statement-clause-err
returns-in_err-run_statement-clause-err g c =
    let p = err_from_is_err_and c.from_residual.result c.from_residual.ensures.1 in
    let all = map (λ rule. (goal.Rule-dyn g (rule.vtable, rule.value)).shape_of rule.value) c.args.rules.now.items in
    rw p.1 (front_none (g.K.Sink.held c.args.sink.now) (run_one (env_of c.args.env.now) all c.args.statement.now).text)
