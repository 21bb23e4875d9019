use Rattle.std.proofs.Common.{arith}
use Rattle.cow_row.proofs.Packed.{filled_at}
use Rattle.cow_row.proofs.row.Row.buf.Goals as goal

pub returns : goal.returns
returns g c = rw (← c.self.view_is) (λ i l. filled_at c.self.inside.buf c.self.inside.front c.self.inside.len i c.self.invariant (omega (arith, l, c.self.invariant.count)))
