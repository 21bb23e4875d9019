use Rattle.std.proofs.Common.{◌≤◌}
use Rattle.tests_storage.proofs.cell.visit.Given as goal

-- a unit is left for the next twin
abbrev pub invariant-loop : goal.invariant-loop
invariant-loop g l = 1 ≤ l.h.spare
