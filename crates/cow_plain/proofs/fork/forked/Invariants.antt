use Rattle.std.proofs.Common.{◌≡◌, drop}
use Rattle.cow_model.specs.Fork.{forked}
use Rattle.cow_plain.proofs.fork.forked.Given as goal

-- the fork so far, and the tasks to come
abbrev pub invariant-loop-task : goal.invariant-loop-task
invariant-loop-task l = forked l.made (drop l.task-index l.tasks) ≡ forked l.fn.f l.tasks
