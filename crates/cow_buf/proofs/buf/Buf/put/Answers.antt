use Rattle.std.proofs.Common.{length-set}
use Rattle.cow_buf.proofs.buf.Buf.put.Goals as goal

pub invariant_of-self : goal.invariant_of-self
invariant_of-self g c = record {
  count = rw (c.put.ensures, length-set c.self.inside.memory.places c.args.i _) c.self.invariant.count;
  small = rw (c.put.ensures, length-set c.self.inside.memory.places c.args.i _) c.self.invariant.small;
}
