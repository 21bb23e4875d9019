use Rattle.std.proofs.Common.{ap, arith}
use Rattle.cow_heap.proofs.Costs.{count_ascent, pays}
use Rattle.cow_heap.proofs.Extremes.{heap_shown}
use Rattle.cow_model.specs.Members.{ascending}
use Rattle.cow_heap.proofs.heap.prepare.Goals as goal

pub returns-clause-heap : goal.returns-clause-heap
returns-clause-heap g c = heap_shown g.T.Item.plain g.T.Item.IsSettled c.args.cell.now.value c.prepare.new.cell.value c.requires.heap c.prepare.ensures.sound c.prepare.ensures.same c.prepare.ensures.front

pub returns-clause-value : goal.returns-clause-value
returns-clause-value g c = ap ascending c.prepare.ensures.same

pub returns-clause-paid : goal.returns-clause-paid
returns-clause-paid g c = pays g.T.Item.plain g.T.Item.is_counted g.T.Item.WEIGHT c.args.cell.now c.args.h.now c.prepare.new.h c.prepare.ensures.moved

pub prepare-requires-clause-spare : goal.prepare-requires-clause-spare
prepare-requires-clause-spare g c = omega (arith, c.requires.spare, count_ascent g.T.Item.plain c.args.cell.now.value.items)
