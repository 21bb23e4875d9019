use Rattle.std.proofs.Common.{arith}
use Rattle.std.proofs.lemmas.Grind.{common_steps}
use Rattle.kind_heap.proofs.Heaps.{parts-replace-max}
use Rattle.kind_heap.proofs.heap.replace_max_parts.Goals as goal

pub returns : goal.returns
returns g c =
    parts-replace-max c.is_end.result _ c.args.atom.now c.args.s.now.value c.max.ensures.ascends (rw c.max.ensures.value at c.is_end.ensures) (grind (arith, common_steps))
