use Rattle.std.proofs.Common.{◌≡◌, ◌+◌, All, sum_by, vec_len}
use Rattle.cow_crew.specs.Passes.{IsOver}
use Rattle.cow_crew.proofs.crew.join_all.Given as goal

abbrev pub invariant-loop-pass : goal.invariant-loop-pass
invariant-loop-pass g l =
    IsOver l.board l.whole
    × All (IsOver l.board) l.passes.items
    × (l.whole.parts + sum_by (λ p. p.parts) l.passes.items ≡ sum_by (λ p. p.parts) l.fn.passes.items)

abbrev pub decreases-loop-pass : goal.decreases-loop-pass
decreases-loop-pass g l = vec_len l.passes
