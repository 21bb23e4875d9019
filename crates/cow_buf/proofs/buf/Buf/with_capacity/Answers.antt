use Rattle.std.proofs.Common.{arith}
use Rattle.std.proofs.lemmas.Grind.{common_steps}
use Rattle.std.proofs.lemmas.List.{length-replicate}
use Rattle.cow_buf.proofs.buf.Buf.with_capacity.Goals as goal

pub invariant_of-result : goal.invariant_of-result
invariant_of-result g c = record { count = grind (arith, common_steps, length-replicate); small = grind (arith, common_steps, length-replicate, c.requires) }
