use Rattle.std.proofs.Common.{arith}
use Rattle.std.proofs.lemmas.Grind.{common_steps}
use Rattle.cow_heap.proofs.Costs.{count_ascent}
use Rattle.cow_heap.proofs.heap.Heap.count.Goals as goal

pub returns-clause-value : goal.returns-clause-value
returns-clause-value g c =
    let n = count_ascent g.T.Item.plain c.self.inside.cell.value.items in
    rw (← c.self.view_is, n) (grind (arith, common_steps))
