use Rattle.std.proofs.Common.{length-set}
use Rattle.cow_buf.proofs.buf.Buf.at_mut.Goals as goal

pub invariant_of-self-lent : goal.invariant_of-self-lent
invariant_of-self-lent g c w = record {
  count = rw (length-set c.self.inside.memory.places c.args.i _) c.self.invariant.count;
  small = rw (length-set c.self.inside.memory.places c.args.i _) c.self.invariant.small;
}
