use Rattle.std.proofs.Common.{arith}
use Rattle.cow_row.proofs.Runs.{units-run}
use Rattle.cow_array.proofs.slice.ArraySlice.into_array.Goals as goal

pub returns-in-Some-clause-moved : goal.returns-in-Some-clause-moved
returns-in-Some-clause-moved g c =
    let fewer = units-run g.T.Item.plain g.T.Item.is_counted c.self.inside.cell.value.items c.self.inside.from c.self.inside.count in
    let spare = rw (c.keep_run.ensures.items, c.in-Some.ensures.value) at c.keep_run.ensures.spare in
    let purse = c.sole.ensures.purse in
    rw (← c.self.view_is)
    (record {
      falls = grind (arith, fewer, spare, purse);
      rises = grind (arith, fewer, spare, purse);
      copied = grind (arith, purse, c.keep_run.ensures.copied);
      kept = grind (arith, purse, c.keep_run.ensures.copied);
    })
