use Rattle.cow_row.proofs.Around.{trades-in-place}
use Rattle.cow_row.proofs.storage.replace_run.Goals as goal

pub returns-in-Some-clause-paid : goal.returns-in-Some-clause-paid
returns-in-Some-clause-paid g c =
    let old = c.args.cell.now in
    let paid = rw (c.in_default-reserve.ensures.items, c.in-Some.ensures.value, c.in-Some.ensures.purse) at c.replace_run.ensures.paid in
    trades-in-place g.T.Item.plain g.T.Item.is_counted g.T.Item.WEIGHT old.alone old.value.items c.args.start c.args.count c.args.h.now c.replace_run.new.h paid
