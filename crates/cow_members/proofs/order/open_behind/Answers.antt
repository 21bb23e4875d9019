use Rattle.std.proofs.Common.{arith}
use Rattle.cow_members.proofs.Orders.{opens-none}
use Rattle.cow_members.proofs.order.open_behind.Goals as goal

pub open_up-requires : goal.open_up-requires
open_up-requires c p h e = omega (arith, c.requires.below p h e, c.requires.small)

pub returns-else-i-count-clause-pairs : goal.returns-else-i-count-clause-pairs
returns-else-i-count-clause-pairs c = opens-none c.args.i c.args.count c.args.table.now.pairs (omega (arith, c.if-i-count.false)) c.requires.below
