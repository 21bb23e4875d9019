use Rattle.std.proofs.Common.{◌≡◌}
use Rattle.cow_crew.specs.Passes.{IsOf, MayDraw}
use Rattle.tests_crew.proofs.crew.serves_three.Given as goal

abbrev pub invariant-loop-number : goal.invariant-loop-number
invariant-loop-number l = IsOf l.board l.pass × MayDraw l.pass × (l.pass.parts ≡ l.fn.pass.parts)
