use Rattle.std.proofs.Common.{◌≡◌, ◌≤◌}
use Rattle.cow_treedict.proofs.distinct.end_all.Given as goal

abbrev pub invariant-loop-pair : goal.invariant-loop-pair
invariant-loop-pair g l = ((goal.iterator-loop-pair g).can_next l.pair-iterator) × ((goal.iterator-loop-pair g).is_finite l.pair-iterator) × (l.fn.h.spare ≤ l.h.spare) × (l.h.copied ≡ l.fn.h.copied)
