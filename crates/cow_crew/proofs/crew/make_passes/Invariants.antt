use Rattle.std.proofs.Common.{◌≡◌, ◌+◌, All, sum_by, vec_len}
use Rattle.cow_crew.specs.Passes.{IsIdle}
use Rattle.cow_crew.proofs.crew.make_passes.Given as goal

abbrev pub invariant-loop-made : goal.invariant-loop-made
invariant-loop-made g l =
    IsIdle l.board l.pass
    × All (IsIdle l.board) l.all.items
    × (vec_len l.all + 1 ≡ l._made)
    × (l.pass.parts + vec_len l.all ≡ l.fn.pass.parts)
    × (sum_by (λ p. p.parts) l.all.items ≡ vec_len l.all)
