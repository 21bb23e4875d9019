use Rattle.std.proofs.Common.{◌≡◌, drop}
use Rattle.cow_tasks.specs.Blocks.{unbuilt_in_task}
use Rattle.cow_tasks.proofs.built.first_in_task.Given as goal

-- those so far are built
abbrev pub invariant-loop-statement : goal.invariant-loop-statement
invariant-loop-statement l = unbuilt_in_task (drop l.statement-index l.statements) ≡ unbuilt_in_task l.statements
