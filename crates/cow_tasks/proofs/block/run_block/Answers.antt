use Rattle.std.proofs.Common.{◌+◌, ◌++◌, [], map, drop, ap, sym, ◌∙◌, arith, append_assoc, subst, refl}
use Rattle.std.proofs.lemmas.Result.{err_from_is_err_and}
use Rattle.cow_model.specs.Atoms.{IsBareLayer}
use Rattle.cow_model.specs.Run.{run_one, env_after, text_from, least_layer, least_from}
use Rattle.cow_model.specs.declared.statement.Statement.{out-Statement}
use Rattle.cow_views.specs.Asks.{asks_layer, asks_from, raised_by}
use Rattle.cow_eval.specs.Envs.{CanRun, env_of}
use Rattle.cow_eval.proofs.Asking.{raised-on}
use Rattle.cow_tasks.specs.Blocks.{count_in, count_of, has_fork, is_fork}
use Rattle.cow_tasks.proofs.Lists.{nothing-left}
use Rattle.cow_tasks.proofs.Blocks.{asked-end, asks-next, env-next, text-next, least-next, least-on, most-next, of-this, rises-on, balances-on, starts-on, grows-in, stays-grows, or-left, or-right, count-next, fork-next}
use Rattle.cow_tasks.proofs.Making.{can-less}
use Rattle.cow_tasks.proofs.block.run_block.Goals as goal

pub run_statement-requires-clause-ready : goal.run_statement-requires-clause-ready
run_statement-requires-clause-ready g c = λ lifetimes outlives.
    let loop = c.loop-statement in
    let count = count-next (env_of loop.env) [] c.args.block.now loop.statement-index c.statement-item.result c.loop-statement-test.true c.statement-item.is in
    can-less (count_of (out-Statement c.statement-item.result)) (count_in (drop loop.statement-index c.args.block.now)) loop.env loop.h (omega (arith, count)) loop.invariant.ready

pub run_statement-requires-clause-parts : goal.run_statement-requires-clause-parts
run_statement-requires-clause-parts g c = λ lifetimes outlives fork.
    let loop = c.loop-statement in
    let s = c.statement-item.result in
    let rest = drop (loop.statement-index + 1) c.args.block.now in
    let count = count-next (env_of loop.env) [] c.args.block.now loop.statement-index s c.loop-statement-test.true c.statement-item.is in
    let here = sym (fork-next (env_of loop.env) [] c.args.block.now loop.statement-index s c.loop-statement-test.true c.statement-item.is) ∙ or-left (is_fork (out-Statement s)) (has_fork rest) fork in
    let parts = loop.invariant.parts here in
    omega (arith, count, parts)

pub loop-statement-preserved : goal.loop-statement-preserved
loop-statement-preserved g c =
    let loop = c.loop-statement in
    let so-far = loop.invariant in
    let block = c.args.block.now in
    let all = map (λ rule. (goal.Rule-dyn g (rule.vtable, rule.value)).shape_of rule.value) c.args.rules.now.items in
    let did = c.in_ok-run_statement.ensures in
    let step = rw so-far.shapes at did.step in
    let asked = rw so-far.shapes at did.asked in
    let numbers = map (λ rule. (goal.Rule-dyn g (rule.vtable, rule.value)).asked_of rule.value) loop.rules.items in
    let numbers' = map (λ rule. (goal.Rule-dyn g (rule.vtable, rule.value)).asked_of rule.value) c.run_statement.new.rules.items in
    let at = loop.statement-index in
    let s = c.statement-item.result in
    let lt = c.loop-statement-test.true in
    let is = c.statement-item.is in
    let rest = drop (at + 1) block in
    let said = (run_one (env_of loop.env) all s).text in
    let fell = step.falls (λ fork. refl) in
    let count = count-next (env_of loop.env) all block at s lt is in
    let fork = fork-next (env_of loop.env) all block at s lt is in
    record {
      shapes = did.shapes ∙ so-far.shapes;
      asked =
          ap (λ e. raised_by (λ k. asks_from e all k rest) numbers') step.env
          ∙ (ap (raised_by (λ k. asks_from (run_one (env_of loop.env) all s).env all k rest)) asked
          ∙ (raised-on (λ k. asks_layer (env_of loop.env) all k (out-Statement s)) (λ k. asks_from (run_one (env_of loop.env) all s).env all k rest) numbers
          ∙ (asks-next (env_of loop.env) all block at s lt is numbers ∙ so-far.asked)));
      env = ap (λ e. env_after e all rest) step.env ∙ (env-next (env_of loop.env) all block at s lt is ∙ so-far.env);
      text = ap (λ t. t ++ text_from (env_of c.run_statement.new.env) all rest) step.text ∙ (ap (λ e. (loop.text.items ++ said) ++ text_from e all rest) step.env ∙ (append_assoc loop.text.items said (text_from (run_one (env_of loop.env) all s).env all rest) ∙ (ap (λ t. loop.text.items ++ t) (text-next (env_of loop.env) all block at s lt is) ∙ so-far.text)));
      kept = rw step.text (starts-on c.args.text.now.items loop.text.items said so-far.kept);
      copied = rises-on c.args.env.now.allowed loop.env.allowed c.run_statement.new.env.allowed c.args.h.now loop.h c.run_statement.new.h so-far.copied step.copied;
      least =
          let known = so-far.least in
          let made = least-on (least_layer (env_of loop.env) (out-Statement s)) (least_from (run_one (env_of loop.env) all s).env all rest) loop.h.copied c.run_statement.new.h.copied did.least in
          let whole = least-next (env_of loop.env) all block at s lt is in
          let left = ap (λ e. least_from e all rest) step.env in
          omega (arith, known, made, whole, left);
      ready = did.next (count_in rest) (subst (λ n. CanRun n loop.env loop.h) (omega (arith, count)) so-far.ready);
      parts = λ more. let parts = so-far.parts (sym fork ∙ or-right (is_fork (out-Statement s)) (has_fork rest) more) in omega (arith, parts, fell, count);
      forks = λ more. so-far.forks (sym fork ∙ or-right (is_fork (out-Statement s)) (has_fork rest) more);
      falls = let low = so-far.falls in omega (arith, low, fell, count);
      bare = λ names plain. let now = so-far.bare names plain in balances-on g.V.Shown.counted c.args.env.now.names loop.env.names c.run_statement.new.env.names c.args.h.now loop.h c.run_statement.new.h now (step.bare now.bare (of-this (env_of loop.env) all block at s lt is (λ x. IsBareLayer g.V.Shown.counted (out-Statement x)) plain));
    }

pub returns-in_err-run_statement-clause-steps : goal.returns-in_err-run_statement-clause-steps
returns-in_err-run_statement-clause-steps g c =
    let refused = err_from_is_err_and c.from_residual.result c.from_residual.ensures.1 in
    let loop = c.loop-statement in
    let so-far = loop.invariant in
    let block = c.args.block.now in
    let all = map (λ rule. (goal.Rule-dyn g (rule.vtable, rule.value)).shape_of rule.value) c.args.rules.now.items in
    let at = loop.statement-index in
    let s = c.statement-item.result in
    let lt = c.loop-statement-test.true in
    let is = c.statement-item.is in
    let did = rw so-far.shapes at c.in_err-run_statement.ensures.step in
    let out = run_one (env_of loop.env) all s in
    let rest = text_from out.env all (drop (at + 1) block) in
    let next = most-next (env_of loop.env) all block at s lt is in
    let whole = ap (λ e. e.allowed) so-far.env in
    let count = count-next (env_of loop.env) all block at s lt is in
    let grew = stays-grows (out-Statement s) out loop.text.items c.run_statement.new.text.items did.kept in
    rw refused.1 (record {
      env = _;
      text = _;
      kept = grows-in c.args.text.now.items loop.text.items c.run_statement.new.text.items out.text rest (text_from (env_of loop.env) all (drop at block)) (text_from (env_of c.args.env.now) all block) so-far.kept grew (text-next (env_of loop.env) all block at s lt is) so-far.text;
      most = let most = did.most in omega (arith, next, whole, most);
      copied = rises-on c.args.env.now.allowed loop.env.allowed c.run_statement.new.env.allowed c.args.h.now loop.h c.run_statement.new.h so-far.copied did.copied;
      falls = λ ok.
          let fell = did.falls (λ fork. ok (so-far.forks (sym (fork-next (env_of loop.env) all block at s lt is) ∙ or-left (is_fork (out-Statement s)) (has_fork (drop (at + 1) block)) fork))) in
          let low = so-far.falls in
          omega (arith, low, fell, count);
      bare = λ names all. _;
    })

pub returns-clause-asked : goal.returns-clause-asked
returns-clause-asked g c =
    let loop = c.loop-statement in
    let block = c.args.block.now in
    let all = map (λ rule. (goal.Rule-dyn g (rule.vtable, rule.value)).shape_of rule.value) c.args.rules.now.items in
    asked-end (env_of loop.env) all (drop loop.statement-index block) (nothing-left block loop.statement-index c.loop-statement-test.false) _ _ loop.invariant.asked
