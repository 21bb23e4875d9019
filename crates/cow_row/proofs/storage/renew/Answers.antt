use Rattle.std.proofs.Common.{arith}
use Rattle.std.proofs.lemmas.Grind.{common_steps}
use Rattle.cow_row.proofs.Runs.{units-run}
use Rattle.cow_row.proofs.storage.renew.Goals as goal

pub returns-clause-moved : goal.returns-clause-moved
returns-clause-moved g c =
    let fewer = units-run g.T.Item.plain g.T.Item.is_counted c.args.cell.now.value.items c.args.start c.args.count in
    let ended = rw c.replace-old.ensures.value at c.end_cell.ensures.moved in
    let units = rw c.get.ensures at c.copy_run.ensures.units in
    let made = c.in_ok-fresh.ensures.spent in
    record {
      falls = grind (arith, fewer, ended, units, made, c.end_cell.ensures.never_less);
      rises = grind (arith, fewer, ended, units, made);
      copied = grind (arith, ended, made, c.copy_run.ensures.copied);
      kept = grind (arith, ended, made, c.copy_run.ensures.copied);
    }

pub returns-clause-no_gain : goal.returns-clause-no_gain
returns-clause-no_gain g c =
    let ended = rw c.replace-old.ensures.value at c.end_cell.ensures.moved in
    let units = rw c.get.ensures at c.copy_run.ensures.units in
    grind (arith, common_steps, ended, units, c.copy_run.ensures.same, c.in_ok-fresh.ensures.spent)
