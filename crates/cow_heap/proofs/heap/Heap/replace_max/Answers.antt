use Rattle.std.proofs.Common.{refl}
use Rattle.cow_heap.proofs.Costs.{count_ascent}
use Rattle.cow_heap.proofs.heap.Heap.replace_max.Goals as goal

pub returns-clause-ok : goal.returns-clause-ok
returns-clause-ok g c = record {
  value = rw (← c.self.view_is, count_ascent g.T.Item.plain c.self.inside.cell.value.items)
      (rw (c.only.ensures.value, c.prepare.ensures.value, c.prepare.ensures.count, c.settle.ensures.same) at c.replace_max.ensures.value);
  alone = refl;
}

pub returns-clause-old : goal.returns-clause-old
returns-clause-old g c =
    rw (← c.self.view_is, count_ascent g.T.Item.plain c.self.inside.cell.value.items)
    (rw (c.only.ensures.value, c.prepare.ensures.value, c.prepare.ensures.count) at c.replace_max.ensures.greatest)
