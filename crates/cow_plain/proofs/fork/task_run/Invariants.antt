use Rattle.std.proofs.Common.{◌≡◌, drop}
use Rattle.cow_model.specs.Fork.{task_run}
use Rattle.cow_plain.proofs.fork.task_run.Given as goal

-- the task so far, and the statements to come
abbrev pub invariant-loop-statement : goal.invariant-loop-statement
invariant-loop-statement l = task_run l.shapes l.made (drop l.statement-index l.statements) ≡ task_run l.shapes l.fn.task l.statements
