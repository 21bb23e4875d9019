use Rattle.cow_model.specs.declared.statement.TaskBlock.{out-TaskBlock}
use Rattle.cow_tasks.specs.Blocks.{captures_in, statements_in}
use Rattle.cow_tasks.proofs.Making.{made-ready, made-one}
use Rattle.cow_tasks.proofs.captures.make_task.Goals as goal

pub invariant_of-result : goal.invariant_of-result
invariant_of-result g c =
    let did = rw c.as_slice.ensures at c.in_ok-capture_all.ensures in
    rw c.as_slice-2.ensures (made-ready g.V.Shown.counted c.args.share (captures_in c.args.block.now) (out-TaskBlock c.args.block.now).captures (statements_in c.args.block.now) c.args.parent.now c.capture_all.new.parent c.new-env.result c.capture_all.new.task c.args.text.now.items c.capture_all.new.text.items c.args.h.now c.capture_all.new.h c.split.result c.new-env.ensures.start c.new-env.ensures.empty c.split.ensures.part did c.requires.block c.requires.ready)

pub returns-clause-makes : goal.returns-clause-makes
returns-clause-makes g c =
    let did = rw c.as_slice.ensures at c.in_ok-capture_all.ensures in
    rw c.as_slice-2.ensures (made-one g.V.Shown.counted c.args.share (captures_in c.args.block.now) (out-TaskBlock c.args.block.now).captures (statements_in c.args.block.now) c.args.parent.now c.capture_all.new.parent c.new-env.result c.capture_all.new.task c.args.text.now.items c.capture_all.new.text.items c.args.h.now c.capture_all.new.h c.split.result c.new-env.ensures.start c.new-env.ensures.empty c.split.ensures.part did c.split.new.self c.requires.units c.split.ensures.rest)
