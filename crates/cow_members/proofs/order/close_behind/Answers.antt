use Rattle.std.proofs.Common.{arith}
use Rattle.cow_members.proofs.Orders.{closes-none}
use Rattle.cow_members.proofs.order.close_behind.Goals as goal

pub returns-else-i-count-clause-pairs : goal.returns-else-i-count-clause-pairs
returns-else-i-count-clause-pairs c = closes-none c.args.i c.args.count c.args.table.now.pairs (omega (arith, c.if-i-count.false)) c.requires.absent c.requires.below
