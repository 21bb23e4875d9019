use Rattle.std.proofs.Common.{◌≡◌, drop}
use Rattle.cow_model.specs.Fork.{joined_all}
use Rattle.cow_plain.proofs.fork.joined_all.Given as goal

-- the outcome so far, and the tasks to come
abbrev pub invariant-loop-task : goal.invariant-loop-task
invariant-loop-task l = joined_all l.made (drop l.task-index l.tasks) ≡ joined_all l.fn.out l.tasks
