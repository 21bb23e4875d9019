use Rattle.std.proofs.Common.{arith}
use Rattle.cow_row.proofs.Runs.{units-set, unit-in}
use Rattle.cow_row.proofs.storage.put_behind.Goals as goal

pub returns-else-count-len-clause-units : goal.returns-else-count-len-clause-units
returns-else-count-len-clause-units g c = rw c.replace.ensures.row (units-set g.T.Item.plain g.T.Item.is_counted c.args.row.now.items c.args.count c.args.x (omega (arith, c.len.ensures.value)))

pub returns-else-count-len-clause-paid : goal.returns-else-count-len-clause-paid
returns-else-count-len-clause-paid g c =
    let one = unit-in g.T.Item.plain g.T.Item.is_counted c.args.row.now.items c.args.count c.replace.result c.replace.ensures.value in
    rw c.end.ensures (record { falls = omega arith; rises = omega (arith, one); copied = omega arith; kept = omega arith })
