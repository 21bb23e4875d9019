use Rattle.std.proofs.Common.{◌+◌, arith, ap, drop, sym, ◌∙◌, subst}
use Rattle.std.proofs.lemmas.Result.{err_from_is_err_and}
use Rattle.cow_model.specs.Fork.{captured, captured_all}
use Rattle.cow_model.specs.Fronts.{IsFrontOf}
use Rattle.cow_eval.specs.Envs.{entry_in}
use Rattle.cow_tasks.specs.Captures.{captured_at}
use Rattle.cow_tasks.proofs.CaptureLists.{all-grows}
use Rattle.cow_tasks.proofs.Growth.{front-on}
use Rattle.cow_tasks.proofs.Lists.{at-next, nothing-left}
use Rattle.cow_tasks.proofs.captures.capture_all.Goals as goal

pub loop-one-preserved : goal.loop-one-preserved
loop-one-preserved g c =
    let so-far = c.loop-one.invariant in
    let did = c.in_ok-capture.ensures in
    let rest = drop (c.loop-one.one-index + 1) c.args.captures.now in
    let start = captured_at c.loop-one.parent c.loop-one.task c.loop-one.text.items in
    record {
      done = ap (λ s. captured_all s rest) did.done ∙ (at-next c.args.captures.now c.loop-one.one-index c.one-item.result c.loop-one-test.true c.one-item.is (λ cs. captured_all start cs) ∙ so-far.done);
      grows = front-on c.args.text.now.items c.loop-one.text.items c.capture.new.text.items so-far.grows did.grows;
      of_parent = record { room = did.of_parent.room ∙ so-far.of_parent.room; allowed = did.of_parent.allowed ∙ so-far.of_parent.allowed };
      of_task = record { room = did.of_task.room ∙ so-far.of_task.room; allowed = did.of_task.allowed ∙ so-far.of_task.allowed };
      copied = did.copied ∙ so-far.copied;
      falls = let one = did.falls in let low = so-far.falls in omega (arith, one, low);
      near = λ m parent task. let now = so-far.near m parent task in did.near m now.0 now.1;
      bare = λ parent task.
          let now = so-far.bare parent task in
          let then = did.bare now.first now.second in
          let before = now.sum in
          let after = then.sum in
          record { first = then.first; second = then.second; sum = omega (arith, before, after) };
    }

pub returns-in_err-capture : goal.returns-in_err-capture
returns-in_err-capture g c =
    let refused = err_from_is_err_and c.from_residual.result c.from_residual.ensures.1 in
    let so-far = c.loop-one.invariant in
    let did = c.in_err-capture.ensures in
    let rest = drop (c.loop-one.one-index + 1) c.args.captures.now in
    let start = captured_at c.loop-one.parent c.loop-one.task c.loop-one.text.items in
    let next = captured start c.one-item.result (entry_in c.one-item.result.name c.loop-one.parent) in
    let whole = at-next c.args.captures.now c.loop-one.one-index c.one-item.result c.loop-one-test.true c.one-item.is (λ cs. captured_all start cs) ∙ so-far.done in
    rw refused.1 (record {
      done = _;
      kept = subst (λ e. IsFrontOf c.capture.new.text.items e.text) whole (front-on c.capture.new.text.items next.text (captured_all next rest).text did.kept (all-grows next rest));
      grows = front-on c.args.text.now.items c.loop-one.text.items c.capture.new.text.items so-far.grows did.grows;
      of_parent = record { room = did.of_parent.room ∙ so-far.of_parent.room; allowed = did.of_parent.allowed ∙ so-far.of_parent.allowed };
      of_task = _;
      copied = did.copied ∙ so-far.copied;
      falls = let one = did.falls in let low = so-far.falls in let lt = c.loop-one-test.true in omega (arith, one, low, lt);
      near = λ m parent task. _;
      bare = λ parent task. _;
    })

pub returns : goal.returns
returns g c =
    let did = c.loop-one.invariant in
    let start = captured_at c.loop-one.parent c.loop-one.task c.loop-one.text.items in
    record {
      done = sym (ap (λ cs. captured_all start cs) (nothing-left c.args.captures.now c.loop-one.one-index c.loop-one-test.false)) ∙ did.done;
      kept = _;
      grows = did.grows;
      of_parent = did.of_parent;
      of_task = did.of_task;
      copied = did.copied;
      falls = let low = did.falls in let end = c.loop-one.auto.one-index-end in omega (arith, low, end);
      near = did.near;
      bare = did.bare;
    }
