use Rattle.std.proofs.Common.{arith}
use Rattle.cow_deque.proofs.storage.renew.Goals as goal

pub returns-clause-moved : goal.returns-clause-moved
returns-clause-moved g c =
    let ended = rw c.replace-old.ensures.value at c.end_cell.ensures.moved in
    let units = rw c.get.ensures at c.copy_items.ensures.units in
    let made = c.in_ok-fresh.ensures.spent in
    record {
      falls = grind (arith, ended, units, made, c.end_cell.ensures.never_less);
      rises = grind (arith, ended, units, made);
      copied = grind (arith, ended, made, c.copy_items.ensures.copied);
      kept = grind (arith, ended, made, c.copy_items.ensures.copied);
    }
