use Rattle.cow_heap.proofs.Costs.{none_ascend}
use Rattle.cow_heap.proofs.heap.Heap.is_empty.Goals as goal

pub returns : goal.returns
returns g c =
    let none = none_ascend g.T.Item.plain c.self.inside.cell.value.items in
    let row = rw c.get.ensures at c.is_empty.ensures in
    rw (← c.self.view_is) (λ yes. none.1 (row.0 yes), λ e. row.1 (none.0 e))
