use Rattle.std.proofs.Common.{◌≡◌, ◌≤◌}
use Rattle.cow_champ.proofs.branch.BranchLevel.end_node.Given as goal

abbrev pub invariant-loop-c : goal.invariant-loop-c
invariant-loop-c g l = ((goal.iterator-loop-c g).can_next l.c-iterator) × ((goal.iterator-loop-c g).is_finite l.c-iterator) × (l.fn.h.spare ≤ l.h.spare) × (l.h.copied ≡ l.fn.h.copied)
