use Rattle.std.proofs.Common.{◌≤◌, ◌^◌, ◌-◌, map, ◌∙◌, sym, rules}
use Rattle.std.proofs.lemmas.Result.{err_from_is_err_and}
use Rattle.cow_model.specs.Run.{text_of, bound}
use Rattle.cow_run.specs.Lines.{census_if}
use Rattle.cow_run.proofs.Counts.{counts_exactly}
use Rattle.cow_run.proofs.Ran.{front_before, front_behind, census_front, census_written}
use Rattle.cow_run.proofs.run.run_script.Goals as goal

pub returns-in_err-run_statements-clause-err : goal.returns-in_err-run_statements-clause-err
returns-in_err-run_statements-clause-err g c =
    let all = map (λ rule. (goal.Rule-dyn g (rule.vtable, rule.value)).shape_of rule.value) c.args.rules.now.items in
    let p = err_from_is_err_and c.from_residual.result c.from_residual.ensures.1 in
    rw p.1 (front_before _ _ (text_of c.args.statements.now all) (census_if c.args.running.census c.run_statements.new.h.copied (bound c.args.statements.now all)) c.in_err-run_statements.ensures.err)

pub returns-in_err-write_census-clause-err : goal.returns-in_err-write_census-clause-err
returns-in_err-write_census-clause-err g c =
    let all = map (λ rule. (goal.Rule-dyn g (rule.vtable, rule.value)).shape_of rule.value) c.args.rules.now.items in
    let p = err_from_is_err_and c.from_residual-in_err-write_census.result c.from_residual-in_err-write_census.ensures.1 in
    let held = g.K.Sink.held in
    let line = census_front _ _ c.args.running.census _ _ _ _ c.copied.ensures (c.allowed.ensures ∙ c.in_ok-run_statements.ensures.allowed) c.in_err-write_census.ensures.err in
    rw p.1 (front_behind (held c.args.sink.now) (held c.run_statements.new.sink) (held c.write_census.new.sink) (text_of c.args.statements.now all) _ c.in_ok-run_statements.ensures.ok line)

pub returns-clause-ok : goal.returns-clause-ok
returns-clause-ok g c =
    let all = map (λ rule. (goal.Rule-dyn g (rule.vtable, rule.value)).shape_of rule.value) c.args.rules.now.items in
    let held = g.K.Sink.held in
    let copied = c.copied.ensures ∙ sym c.end.ensures.copied in
    let most = c.allowed.ensures ∙ c.in_ok-run_statements.ensures.allowed in
    census_written (held c.args.sink.now) (held c.run_statements.new.sink) (held c.write_census.new.sink) all c.args.statements.now c.args.running.census c.copied.result c.end.new.h.copied c.allowed.result copied most c.in_ok-run_statements.ensures.ok c.in_ok-write_census.ensures.ok

pub returns-clause-least : goal.returns-clause-least
returns-clause-least g c =
    let all = map (λ rule. (goal.Rule-dyn g (rule.vtable, rule.value)).shape_of rule.value) c.args.rules.now.items in
    let most = c.allowed.ensures ∙ c.in_ok-run_statements.ensures.allowed in
    let word : c.allowed.result ≤ 2 ^ 64 - 1 = search rules in
    let by = rw c.requires.fresh at c.in_ok-run_statements.ensures.least in
    rw c.end.ensures.copied (counts_exactly all c.args.statements.now c.allowed.result c.run_statements.new.h by most word)
