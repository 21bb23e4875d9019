use Rattle.std.proofs.Common.{arith}
use Rattle.cow_row.proofs.Around.{trades-renewed}
use Rattle.cow_row.proofs.storage.renew_around.Goals as goal

pub returns-clause-paid : goal.returns-clause-paid
returns-clause-paid g c =
    let old = c.args.cell.now.value.items in
    let ended = rw c.replace.ensures.value at c.end_cell.ensures.moved in
    let spent = rw c.get-2.ensures at c.copy_around.ensures.spends in
    let counted = rw c.get-2.ensures at c.copy_around.ensures.copied in
    trades-renewed g.T.Item.plain g.T.Item.is_counted g.T.Item.WEIGHT old c.args.start c.args.count c.args.h.now c.empty.new.h c.copy_around.new.h c.end_cell.new.h c.requires.within (omega (arith, c.requires.spare, c.requires.within)) c.in-Ok.ensures.spent spent counted c.copy_around.ensures.kept ended c.end_cell.ensures.never_less
