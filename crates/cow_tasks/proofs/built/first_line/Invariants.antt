use Rattle.std.proofs.Common.{◌≡◌, drop}
use Rattle.cow_tasks.specs.Blocks.{unbuilt_line}
use Rattle.cow_tasks.proofs.built.first_line.Given as goal

-- those so far are built
abbrev pub invariant-loop-statement : goal.invariant-loop-statement
invariant-loop-statement l = unbuilt_line (drop l.statement-index l.statements) ≡ unbuilt_line l.statements
