use Rattle.std.proofs.Common.{◌≡◌, drop}
use Rattle.cow_tasks.specs.Blocks.{unbuilt_in_tasks}
use Rattle.cow_tasks.proofs.built.first_in_tasks.Given as goal

-- those so far are built
abbrev pub invariant-loop-task : goal.invariant-loop-task
invariant-loop-task l = unbuilt_in_tasks (drop l.task-index l.tasks) ≡ unbuilt_in_tasks l.tasks
