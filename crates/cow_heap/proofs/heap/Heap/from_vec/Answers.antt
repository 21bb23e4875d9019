use Rattle.std.proofs.Common.{arith, ◌∙◌}
use Rattle.std.proofs.lemmas.Grind.{common_steps}
use Rattle.cow_heap.proofs.Extremes.{heap_made, made_ascends}
use Rattle.cow_heap.proofs.heap.Heap.from_vec.Goals as goal

pub invariant_of-result : goal.invariant_of-result
invariant_of-result g c =
    heap_made g.T.Item.plain g.T.Item.IsSettled c.args.items.items c.only-row.result.now c.replace_run.new.row c.build.new.row c.len.result (c.only-row.ensures.value ∙ c.in-Ok.ensures.ok.value) c.replace_run.ensures.same c.build.ensures.moved
    c.replace_run.ensures.settled c.replace_run.ensures.capacity c.replace_run.ensures.front c.build.ensures.levels (grind (arith, common_steps)) (grind (arith, common_steps))

pub returns-clause-ok : goal.returns-clause-ok
returns-clause-ok g c = record {
  value = made_ascends g.T.Item.plain g.T.Item.IsSettled c.args.items.items c.only-row.result.now c.replace_run.new.row c.build.new.row c.len.result (c.only-row.ensures.value ∙ c.in-Ok.ensures.ok.value) c.replace_run.ensures.same c.build.ensures.moved;
  alone = grind (arith, common_steps);
}
