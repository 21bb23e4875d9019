use Rattle.std.proofs.Common.{◌≡◌, ◌++◌, drop}
use Rattle.cow_model.specs.Fork.{given_by}
use Rattle.cow_plain.proofs.fork.given_by.Given as goal

-- what was given so far, and the tasks to come
abbrev pub invariant-loop-task : goal.invariant-loop-task
invariant-loop-task l = l.made.items ++ given_by (drop l.task-index l.tasks) ≡ given_by l.tasks
