use Rattle.std.proofs.Common.{◌≡◌, ◌≤◌, ◌+◌, length}
use Rattle.cow_eval.specs.Envs.{IsBare}
use Rattle.cow_eval.proofs.env.end_all.Given as goal

-- each value that has ended gave a unit back, and no more where it was bare; copied stays
abbrev pub invariant-loop-entry : goal.invariant-loop-entry
invariant-loop-entry g l = record {
  spare : l.fn.h.spare + length l.fn.names.items ≤ l.h.spare + length l.names.items;
  copied : l.h.copied ≡ l.fn.h.copied;
  bare : IsBare g.V.Shown.counted l.fn.names.items → IsBare g.V.Shown.counted l.names.items × (l.h.spare + length l.names.items ≡ l.fn.h.spare + length l.fn.names.items);
}

abbrev pub decreases-loop-entry : goal.decreases-loop-entry
decreases-loop-entry g l = length l.names.items
