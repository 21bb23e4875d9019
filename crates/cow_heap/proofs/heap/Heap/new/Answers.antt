use Rattle.cow_heap.proofs.Extremes.{heap_empty}
use Rattle.cow_heap.proofs.heap.Heap.new.Goals as goal

pub invariant_of-result : goal.invariant_of-result
invariant_of-result g c = heap_empty g.T.Item.plain g.T.Item.IsSettled c.in_ok-cell.cell.value 0 c.in_ok-cell.ensures.ok.value
