use Rattle.std.proofs.Common.{◌≡◌, ◌≤◌}
use Rattle.cow_champ.proofs.rows.end_entries.Given as goal

abbrev pub invariant-loop-e : goal.invariant-loop-e
invariant-loop-e g l = ((goal.iterator-loop-e g).can_next l.e-iterator) × ((goal.iterator-loop-e g).is_finite l.e-iterator) × (l.fn.h.spare ≤ l.h.spare) × (l.h.copied ≡ l.fn.h.copied)
