use Rattle.std.proofs.Common.{arith}
use Rattle.cow_cell.proofs.Turns.{made}
use Rattle.cow_cell.proofs.counted.Counted.new.Goals as goal

pub returns-in-Ok-clause-step : goal.returns-in-Ok-clause-step
returns-in-Ok-clause-step g c = made _ _ (omega (arith, c.h.invariant.1, rw (← c.h.view_is) at c.requires))
