use Rattle.std.proofs.Common.{arith, ap, length, None, ◌∙◌}
use Rattle.cow_buf.proofs.Moves.{moved-length, gap}
use Rattle.cow_buf.proofs.buf.Buf.shift.Goals as goal

pub invariant_of-self : goal.invariant_of-self
invariant_of-self g c =
    let cs = c.self.inside.memory.places in
    let same = ap length c.move_run.ensures ∙ moved-length (gap cs) None c.args.from c.args.to c.args.n cs (rw (← c.self.view_is) at c.requires.run.0) (rw (← c.self.view_is) at c.requires.to) in
    record { count = omega (arith, same, c.self.invariant.count); small = omega (arith, same, c.self.invariant.small) }
