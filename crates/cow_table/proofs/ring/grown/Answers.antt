use Rattle.std.proofs.Common.{arith}
use Rattle.cow_table.proofs.Sizes.{grow-more}
use Rattle.cow_table.proofs.ring.grown.Goals as goal

pub grow-preserved : goal.grow-preserved
grow-preserved c = (grow-more c.args.count c.grow.size c.args.wanted c.grow.invariant (omega (arith, c.most.ensures, c.grow-test.true)) c.requires.bound).0
