use Rattle.std.proofs.Common.{◌≡◌, ◌++◌, length}
use Rattle.cow_model.specs.Fork.{tasks_run}
use Rattle.cow_plain.proofs.fork.tasks_run.Given as goal

-- the tasks that have run, and those to come
abbrev pub invariant-loop-tasks : goal.invariant-loop-tasks
invariant-loop-tasks l = l.made.items ++ tasks_run l.shapes l.names l.tasks ≡ tasks_run l.shapes l.fn.names l.fn.tasks

abbrev pub decreases-loop-tasks : goal.decreases-loop-tasks
decreases-loop-tasks l = length l.tasks
