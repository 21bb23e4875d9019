use Rattle.cow_heap.proofs.Costs.{units_ascent}
use Rattle.cow_heap.proofs.heap.Heap.end.Goals as goal

pub returns-clause-moved : goal.returns-clause-moved
returns-clause-moved g c = rw (← c.self.view_is, units_ascent g.T.Item.plain g.T.Item.is_counted c.self.inside.cell.value.items) c.end_cell.ensures.moved

pub returns-clause-exact : goal.returns-clause-exact
returns-clause-exact g c = rw (← c.self.view_is, units_ascent g.T.Item.plain g.T.Item.is_counted c.self.inside.cell.value.items) c.end_cell.ensures.exact
