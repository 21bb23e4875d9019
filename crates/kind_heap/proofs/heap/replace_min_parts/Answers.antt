use Rattle.std.proofs.Common.{arith}
use Rattle.std.proofs.lemmas.Grind.{common_steps}
use Rattle.kind_heap.proofs.Heaps.{parts-replace-min}
use Rattle.kind_heap.proofs.heap.replace_min_parts.Goals as goal

pub returns : goal.returns
returns g c =
    parts-replace-min c.is_end.result _ c.args.atom.now c.args.s.now.value c.min.ensures.ascends (rw c.min.ensures.value at c.is_end.ensures) (grind (arith, common_steps))
