use Rattle.std.proofs.Common.{◌+◌, [], arith, length, map, ◌∙◌, subst}
use Rattle.std.proofs.lemmas.List.{append-nil}
use Rattle.std.proofs.lemmas.List.Sums.{sum_by_push}
use Rattle.cow_model.specs.Fork.{forked}
use Rattle.cow_model.specs.Fronts.{IsFrontOf}
use Rattle.cow_model.specs.declared.fork.Captured.{Captured}
use Rattle.cow_model.proofs.ListSteps.{All-push}
use Rattle.cow_eval.specs.Envs.{AreNear, IsBare}
use Rattle.cow_eval.proofs.Costs.{always-err}
use Rattle.cow_tasks.specs.Blocks.{count_tasks, statements_in}
use Rattle.cow_tasks.specs.Captures.{IsStart, forked_at}
use Rattle.cow_tasks.specs.Tasks.{SeenTask}
use Rattle.cow_tasks.proofs.Growth.{front-on}
use Rattle.cow_tasks.proofs.Making.{ready-one, units-one, share-next, next-captures, front-one, done-one, statements-one}
use Rattle.cow_tasks.proofs.captures.make_tasks.Goals as goal

pub make_task-requires-clause-ready : goal.make_task-requires-clause-ready
make_task-requires-clause-ready g c =
    let so-far = c.loop-block.invariant in
    let n = count_tasks c.args.blocks.now in
    ready-one c.args.blocks.now c.loop-block.block-index c.block-item.result c.loop-block-test.true c.block-item.is c.args.share c.args.parent.now c.loop-block.parent c.requires.ready (so-far.near n c.requires.ready.near).0 so-far.free.rest.allowed

pub make_task-requires-clause-units : goal.make_task-requires-clause-units
make_task-requires-clause-units g c =
    units-one c.args.blocks.now c.loop-block.block-index c.block-item.result c.loop-block-test.true c.block-item.is c.args.share c.args.h.now.spare c.loop-block.h.spare c.requires.units c.loop-block.invariant.units

pub returns-in_err-task-clause-kept : goal.returns-in_err-task-clause-kept
returns-in_err-task-clause-kept g c =
    let start = forked (forked_at c.args.parent.now [] c.args.text.now.items) c.args.blocks.now in
    always-err _ c.from_residual.result (front-one c.args.blocks.now c.loop-block.block-index c.block-item.result c.loop-block-test.true c.block-item.is c.loop-block.parent c.loop-block.text.items c.make_task.new.text.items c.loop-block.tasks.items start c.loop-block.invariant.done c.in_err-task.ensures.kept)

pub returns-in_err-push-clause-kept : goal.returns-in_err-push-clause-kept
returns-in_err-push-clause-kept g c =
    let start = forked (forked_at c.args.parent.now [] c.args.text.now.items) c.args.blocks.now in
    let whole = subst (λ (x : Captured). IsFrontOf c.make_task.new.text.items x.text) c.in_ok-task.ensures.makes.done ([], append-nil c.make_task.new.text.items) in
    always-err _ c.from_residual-in_err-push.result (front-one c.args.blocks.now c.loop-block.block-index c.block-item.result c.loop-block-test.true c.block-item.is c.loop-block.parent c.loop-block.text.items c.make_task.new.text.items c.loop-block.tasks.items start c.loop-block.invariant.done whole)

pub loop-block-preserved : goal.loop-block-preserved
loop-block-preserved g c =
    let p = g.V.Shown.counted in
    let blocks = c.args.blocks.now in
    let i = c.loop-block.block-index in
    let b = c.block-item.result in
    let lt = c.loop-block-test.true in
    let is = c.block-item.is in
    let so-far = c.loop-block.invariant in
    let one = c.in_ok-task.ensures in
    let made = one.makes in
    let tasks = c.loop-block.tasks.items in
    let task = c.in_ok-task.task in
    let start = forked (forked_at c.args.parent.now [] c.args.text.now.items) blocks in
    rw c.in_ok-push.ensures.items (record {
      done = done-one blocks i b lt is c.loop-block.parent c.loop-block.text.items c.make_task.new.text.items tasks c.make_task.new.parent task start so-far.done made.done;
      statements = statements-one blocks i b lt is tasks task (map statements_in blocks) one.statements so-far.statements;
      start = All-push (IsStart c.args.share) tasks task so-far.start made.start;
      free = record { grows = front-on c.args.text.now.items c.loop-block.text.items c.make_task.new.text.items so-far.free.grows one.free.grows; rest = record { room = one.free.rest.room ∙ so-far.free.rest.room; allowed = one.free.rest.allowed ∙ so-far.free.rest.allowed }; copied = one.free.copied ∙ so-far.free.copied };
      units =
          let units = so-far.units in
          let fell = made.falls in
          omega (arith, units, fell, share-next blocks i b lt is c.args.share, next-captures blocks i b lt is);
      near = λ m near.
          let now = so-far.near m near in
          let then = made.near m now.0 in
          (then.0, All-push (λ (t : SeenTask). AreNear m t.env.names) tasks task now.1 then.1);
      bare = λ bare.
          let now = so-far.bare bare in
          let then = made.bare now.0 in
          let before = now.2 in
          let after = then.2 in
          (then.0, All-push (λ (t : SeenTask). IsBare p t.env.names) tasks task now.1 then.1, omega (arith, before, after, sum_by_push (λ (t : SeenTask). c.args.share + length t.env.names) tasks task));
    })
