use Rattle.std.proofs.Common.{◌≡◌, ◌+◌, [], suc, arith, ap, drop, length, sym, ◌∙◌, subst}
use Rattle.std.proofs.lemmas.List.{length-drop}
use Rattle.std.proofs.lemmas.Result.{err_from_is_err_and}
use Rattle.cow_model.specs.Atoms.{IsBareStep}
use Rattle.cow_model.specs.Fork.{task_run, task_step}
use Rattle.cow_model.specs.declared.fork.Task.{Task}
use Rattle.cow_model.specs.declared.statement.Statement.{out-Statement}
use Rattle.cow_eval.specs.Envs.{AreNear, CanRun}
use Rattle.cow_eval.proofs.Costs.{no-literals, with-none}
use Rattle.cow_tasks.specs.Tasks.{task_at}
use Rattle.cow_tasks.proofs.Blocks.{rises-on}
use Rattle.cow_tasks.proofs.Lists.{at-next, of-this, nothing-left}
use Rattle.cow_tasks.proofs.Making.{can-less}
use Rattle.cow_tasks.proofs.TaskRuns.{run-allows, front-run}
use Rattle.cow_tasks.proofs.task.steps.Goals as goal

pub step-requires-clause-ready : goal.step-requires-clause-ready
step-requires-clause-ready g c =
    let ss = c.args.statements.now in
    let i = c.loop-statement.statement-index in
    let left : suc (length (drop (i + 1) ss)) ≡ length (drop i ss) = at-next ss i c.statement-item.result c.loop-statement-test.true c.statement-item.is length in
    can-less 1 (length (drop i ss)) c.loop-statement.env c.loop-statement.h (omega (arith, left)) c.loop-statement.invariant.ready

pub loop-statement-preserved : goal.loop-statement-preserved
loop-statement-preserved g c =
    let p = g.V.Shown.counted in
    let ss = c.args.statements.now in
    let i = c.loop-statement.statement-index in
    let s = c.statement-item.result in
    let lt = c.loop-statement-test.true in
    let is = c.statement-item.is in
    let so-far = c.loop-statement.invariant in
    let did = c.in_ok-step.ensures in
    let loop = c.loop-statement in
    let rest = drop (i + 1) ss in
    let t = task_at loop.env loop.text.items loop.gives.items in
    let left : suc (length rest) ≡ length (drop i ss) = at-next ss i s lt is length in
    let one : length (drop i ss) ≡ length rest + 1 = omega (arith, left) in
    record {
      done = ap (λ x. task_run [] x rest) did.done ∙ (at-next ss i s lt is (λ l. task_run [] t l) ∙ so-far.done);
      rises = let low = so-far.rises in let rose = did.rises in omega (arith, low, rose);
      copied = rises-on c.args.env.now.allowed loop.env.allowed c.step.new.env.allowed c.args.h.now loop.h c.step.new.h so-far.copied (no-literals did.costs.copied);
      falls = let low = so-far.falls in let fell = did.costs.falls in omega (arith, low, fell);
      ready = did.next (length rest) (subst (λ n. CanRun n loop.env loop.h) one so-far.ready);
      next = λ m can. did.next (m + length rest) (subst (λ n. CanRun n loop.env loop.h) (omega (arith, one)) (so-far.next m can));
      near = λ m few names near.
          let now = so-far.near m few names near in
          let short = length-drop i ss in
          did.near (m + length rest) (omega (arith, few, one, short)) (subst (λ n. AreNear n loop.env.names) (omega (arith, one)) now.0) (subst (λ n. AreNear n loop.gives.items) (omega (arith, one)) now.1);
      bare = λ names gives all.
          let now = so-far.bare names gives all in
          let then = did.bare now.first now.second (of-this ss i s lt is (λ x. IsBareStep p (out-Statement x)) all) in
          let before = now.sum in
          let after = then.sum in
          record { first = then.first; second = then.second; sum = omega (arith, before, after) };
    }

pub returns-in_err-step : goal.returns-in_err-step
returns-in_err-step g c =
    let refused = err_from_is_err_and c.from_residual.result c.from_residual.ensures.1 in
    let ss = c.args.statements.now in
    let i = c.loop-statement.statement-index in
    let s = c.statement-item.result in
    let lt = c.loop-statement-test.true in
    let is = c.statement-item.is in
    let so-far = c.loop-statement.invariant in
    let did = c.in_err-step.ensures in
    let loop = c.loop-statement in
    let rest = drop (i + 1) ss in
    let t = task_at loop.env loop.text.items loop.gives.items in
    let next = task_step [] t (out-Statement s) in
    let whole = at-next ss i s lt is (λ l. task_run [] t l) ∙ so-far.done in
    rw refused.1 (record {
      done = _;
      kept = front-run next rest c.step.new.text.items whole did.kept;
      most = let more = run-allows next rest in let most = did.most in omega (arith, more, most, ap (λ (x : Task). x.env.allowed) whole);
      rises = let low = so-far.rises in let rose = did.rises in omega (arith, low, rose, lt);
      costs = record {
        copied = with-none (rises-on c.args.env.now.allowed loop.env.allowed c.step.new.env.allowed c.args.h.now loop.h c.step.new.h so-far.copied (no-literals did.costs.copied));
        falls = let low = so-far.falls in let fell = did.costs.falls in omega (arith, low, fell, lt);
      };
      next = λ m can. _;
      near = λ m few names near. _;
      bare = λ names gives all. _;
    })

pub returns : goal.returns
returns g c =
    let ss = c.args.statements.now in
    let i = c.loop-statement.statement-index in
    let loop = c.loop-statement in
    let did = loop.invariant in
    let none = nothing-left ss i c.loop-statement-test.false in
    let short = ap length none in
    let end = loop.auto.statement-index-end in
    let t = task_at loop.env loop.text.items loop.gives.items in
    let done = sym (ap (λ l. task_run [] t l) none) ∙ did.done in
    record {
      done = done;
      kept = _;
      most = omega (arith, ap (λ (x : Task). x.env.allowed) done);
      rises = let rose = did.rises in omega (arith, rose, end);
      costs = record { copied = with-none did.copied; falls = let low = did.falls in omega (arith, low, end) };
      next = λ m can. subst (λ n. CanRun n loop.env loop.h) (omega (arith, short)) (did.next m can);
      near = λ m few names near. let now = did.near m few names near in (subst (λ n. AreNear n loop.env.names) (omega (arith, short)) now.0, subst (λ n. AreNear n loop.gives.items) (omega (arith, short)) now.1);
      bare = did.bare;
    }
