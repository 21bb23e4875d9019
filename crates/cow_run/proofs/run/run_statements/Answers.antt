use Rattle.std.proofs.Common.{◌+◌, ◌∙◌, arith, rules, map, drop, length, subst, sym, ap}
use Rattle.std.proofs.lemmas.Result.{err_from_is_err_and}
use Rattle.cow_model.specs.Run.{text_of}
use Rattle.cow_eval.specs.Envs.{env_of}
use Rattle.cow_tasks.specs.Blocks.{count_in}
use Rattle.cow_tasks.proofs.Blocks.{asked-end}
use Rattle.cow_run.proofs.Counts.{Counts, counts_more, counts_err, counts_end, nothing_left, can_next, can_one, parts_one}
use Rattle.cow_run.proofs.Ran.{Asked, Stands, asked_more, stands_more, front_more, next_rest}
use Rattle.cow_run.proofs.run.run_statements.Goals as goal

pub run_and_write-requires-clause-ready : goal.run_and_write-requires-clause-ready
run_and_write-requires-clause-ready g c = λ lifetimes outlives.
    let loop = c.loop-statement in
    let ss = c.args.statements.now in
    let all = map (λ rule. (goal.Rule-dyn g (rule.vtable, rule.value)).shape_of rule.value) c.args.rules.now.items in
    let next = next_rest ss loop.statement-index c.statement-item.result (search rules) c.statement-item.is in
    let counts = subst (λ rest. Counts g.V.Shown.counted all ss rest loop.env loop.h) next loop.invariant.2 in
    can_one c.statement-item.result (drop (loop.statement-index + 1) ss) loop.env loop.h counts.ready

pub run_and_write-requires-clause-parts : goal.run_and_write-requires-clause-parts
run_and_write-requires-clause-parts g c = λ lifetimes outlives.
    let loop = c.loop-statement in
    let ss = c.args.statements.now in
    let all = map (λ rule. (goal.Rule-dyn g (rule.vtable, rule.value)).shape_of rule.value) c.args.rules.now.items in
    let next = next_rest ss loop.statement-index c.statement-item.result (search rules) c.statement-item.is in
    let counts = subst (λ rest. Counts g.V.Shown.counted all ss rest loop.env loop.h) next loop.invariant.2 in
    parts_one c.statement-item.result (drop (loop.statement-index + 1) ss) loop.h counts.parts

pub loop-statement-preserved : goal.loop-statement-preserved
loop-statement-preserved g c =
    let loop = c.loop-statement in
    let held = g.K.Sink.held in
    let ss = c.args.statements.now in
    let all = map (λ rule. (goal.Rule-dyn g (rule.vtable, rule.value)).shape_of rule.value) c.args.rules.now.items in
    let did = c.in_ok-run_and_write.ensures in
    let began = map (λ rule. (goal.Rule-dyn g (rule.vtable, rule.value)).asked_of rule.value) c.args.rules.now.items in
    let so-far = map (λ rule. (goal.Rule-dyn g (rule.vtable, rule.value)).asked_of rule.value) loop.rules.items in
    let same = loop.invariant.3 in
    let env = rw same at did.env in
    let next = next_rest ss loop.statement-index c.statement-item.result (search rules) c.statement-item.is in
    let stands = subst (λ rest. Stands (held c.args.sink.now) (held loop.sink) all ss rest (env_of loop.env)) next loop.invariant.1 in
    let counts = subst (λ rest. Counts g.V.Shown.counted all ss rest loop.env loop.h) next loop.invariant.2 in (
      omega (arith, loop.invariant.0, c.run_and_write.ensures.later),
      stands_more _ _ _ all _ _ _ _ _ stands env (rw same at did.ok),
      counts_more g.V.Shown.counted all ss (drop (loop.statement-index + 1) ss) c.statement-item.result loop.env c.run_and_write.new.env loop.h c.run_and_write.new.h counts env c.run_and_write.ensures.copied did.falls did.least (did.next (count_in (drop (loop.statement-index + 1) ss)) (can_next c.statement-item.result (drop (loop.statement-index + 1) ss) loop.env loop.h counts.ready)) did.bare,
      c.run_and_write.ensures.shapes ∙ same,
      asked_more all ss (drop (loop.statement-index + 1) ss) c.statement-item.result (env_of loop.env) (env_of c.run_and_write.new.env) began so-far (map (λ rule. (goal.Rule-dyn g (rule.vtable, rule.value)).asked_of rule.value) c.run_and_write.new.rules.items) (subst (λ rest. Asked all ss rest (env_of loop.env) began so-far) next loop.invariant.4) env (rw same at did.asked),
    )

pub returns-in_err-run_and_write-clause-err : goal.returns-in_err-run_and_write-clause-err
returns-in_err-run_and_write-clause-err g c =
    let p = err_from_is_err_and c.from_residual.result c.from_residual.ensures.1 in
    let loop = c.loop-statement in
    let held = g.K.Sink.held in
    let all = map (λ rule. (goal.Rule-dyn g (rule.vtable, rule.value)).shape_of rule.value) c.args.rules.now.items in
    let next = next_rest c.args.statements.now loop.statement-index c.statement-item.result (search rules) c.statement-item.is in
    let stands = subst (λ rest. Stands (held c.args.sink.now) (held loop.sink) all c.args.statements.now rest (env_of loop.env)) next loop.invariant.1 in
    rw p.1 (front_more (held c.args.sink.now) (held loop.sink) (held c.run_and_write.new.sink) _ _ (text_of c.args.statements.now all) stands.written (rw loop.invariant.3 at c.in_err-run_and_write.ensures.err))

pub returns-in_err-run_and_write-clause-most : goal.returns-in_err-run_and_write-clause-most
returns-in_err-run_and_write-clause-most g c =
    let loop = c.loop-statement in
    let held = g.K.Sink.held in
    let ss = c.args.statements.now in
    let all = map (λ rule. (goal.Rule-dyn g (rule.vtable, rule.value)).shape_of rule.value) c.args.rules.now.items in
    let next = next_rest ss loop.statement-index c.statement-item.result (search rules) c.statement-item.is in
    let stands = subst (λ rest. Stands (held c.args.sink.now) (held loop.sink) all ss rest (env_of loop.env)) next loop.invariant.1 in
    let counts = subst (λ rest. Counts g.V.Shown.counted all ss rest loop.env loop.h) next loop.invariant.2 in
    counts_err g.V.Shown.counted all ss (drop (loop.statement-index + 1) ss) c.statement-item.result loop.env c.run_and_write.new.env loop.h c.run_and_write.new.h counts stands.ends (rw loop.invariant.3 at c.run_and_write.ensures.most) c.run_and_write.ensures.copied

pub returns-clause-least : goal.returns-clause-least
returns-clause-least g c =
    let loop = c.loop-statement in
    let ss = c.args.statements.now in
    let all = map (λ rule. (goal.Rule-dyn g (rule.vtable, rule.value)).shape_of rule.value) c.args.rules.now.items in
    let none = nothing_left ss loop.statement-index (search rules) in
    let counts = subst (λ rest. Counts g.V.Shown.counted all ss rest loop.env loop.h) none loop.invariant.2 in
    rw c.requires.fresh (counts_end g.V.Shown.counted all ss loop.env loop.h counts)

pub returns-clause-asked : goal.returns-clause-asked
returns-clause-asked g c =
    let loop = c.loop-statement in
    let ss = c.args.statements.now in
    let all = map (λ rule. (goal.Rule-dyn g (rule.vtable, rule.value)).shape_of rule.value) c.args.rules.now.items in
    asked-end (env_of loop.env) all (drop loop.statement-index ss) (nothing_left ss loop.statement-index (search rules)) _ _ loop.invariant.4
