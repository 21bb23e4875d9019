use Rattle.std.proofs.Common.{◌≡◌, ◌-◌, length}
use Rattle.cow_crew.specs.Rule.{next_after}
use Rattle.cow_crew.specs.Passes.{IsOf, MayDraw}
use Rattle.cow_crew.proofs.crew.work.Given as goal

abbrev pub invariant-loop-pass : goal.invariant-loop-pass
invariant-loop-pass g l = IsOf l.board l.pass × (l.pass.parts ≡ l.fn.pass.parts) × MayDraw l.pass

abbrev pub decreases-loop-pass : goal.decreases-loop-pass
decreases-loop-pass g l = length l.board.jobs - next_after l.pass.numbers
