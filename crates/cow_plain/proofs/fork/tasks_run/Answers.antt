use Rattle.cow_plain.proofs.Ends.{tasks_done}
use Rattle.cow_plain.proofs.fork.tasks_run.Goals as goal

pub returns : goal.returns
returns c = tasks_done c.args.shapes.now c.loop-tasks.made.items _ c.loop-tasks.names.now c.loop-tasks.tasks.now c.in_default.len_below c.loop-tasks.invariant
