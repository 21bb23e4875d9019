use Rattle.std.proofs.Common.{arith, refl, length-set}
use Rattle.cow_row.proofs.Packed.{IsPacked-push, somes-push}
use Rattle.cow_row.proofs.row.Row.push.Goals as goal

pub invariant_of-self : goal.invariant_of-self
invariant_of-self g c = let within = rw (← c.self.view_is) at c.requires in rw c.put.ensures (IsPacked-push c.self.inside.buf c.self.inside.front c.self.inside.len c.args.x c.self.invariant (omega (arith, within, c.self.invariant.count)))

pub returns : goal.returns
returns g c = let within = rw (← c.self.view_is) at c.requires in rw (c.put.ensures, somes-push c.self.inside.buf c.self.inside.front c.self.inside.len c.args.x c.self.invariant (omega (arith, within, c.self.invariant.count)), length-set, ← c.self.view_is) refl
