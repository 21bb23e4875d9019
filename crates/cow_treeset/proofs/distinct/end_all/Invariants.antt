use Rattle.std.proofs.Common.{◌≡◌, ◌≤◌}
use Rattle.cow_treeset.proofs.distinct.end_all.Given as goal

abbrev pub invariant-loop-k : goal.invariant-loop-k
invariant-loop-k g l = ((goal.iterator-loop-k g).can_next l.k-iterator) × ((goal.iterator-loop-k g).is_finite l.k-iterator) × (l.fn.h.spare ≤ l.h.spare) × (l.h.copied ≡ l.fn.h.copied)
