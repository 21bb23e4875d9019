use Rattle.std.proofs.Common.{arith}
use Rattle.cow_cell.proofs.Turns.{retained}
use Rattle.cow_cell.proofs.counted.Counted.share_settled.Goals as goal

pub returns-clause-step : goal.returns-clause-step
returns-clause-step g c = retained _ _ (omega (arith, c.h.invariant.0, c.retain-twin.ensures.2, rw (← c.h.view_is) at c.requires.spare))
