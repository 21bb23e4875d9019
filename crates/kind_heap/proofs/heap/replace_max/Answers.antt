use Rattle.std.proofs.Common.{length, arith}
use Rattle.std.proofs.lemmas.Grind.{common_steps}
use Rattle.cow_row.proofs.Around.{copies-light}
use Rattle.cow_elements.proofs.Units.{unit-of}
use Rattle.kind_heap.proofs.heap.replace_max.Goals as goal

pub returns-in-Ok-clause-paid : goal.returns-in-Ok-clause-paid
returns-in-Ok-clause-paid g c =
    let one = unit-of g.T.Item.is_counted c.args.s.now.value _ (g.T.Item.plain c.in-Ok.old) c.in-Ok.ensures.old in
    let few = copies-light g.T.Item.WEIGHT (length c.args.s.now.value) c.args.s.now.alone (grind (arith, common_steps)) in
    let changed = rw c.in_ok-x.ensures.spent at c.replace_max.ensures.paid.copied in
    record {
      free = grind (arith, common_steps);
      hidden = grind (arith, common_steps);
      moved = record {
        falls = grind (arith, common_steps, one);
        rises = grind (arith, common_steps, one);
        copied = rw c.end-in-Ok.ensures (omega (arith, changed, few));
        kept = grind (arith, common_steps);
      };
      falls = grind (arith, common_steps, one);
    }
