use Rattle.std.proofs.Common.{arith}
use Rattle.std.proofs.lemmas.Grind.{common_steps}
use Rattle.std.proofs.lemmas.List.Edits.{length-remove}
use Rattle.cow_row.proofs.Runs.{IsSound-remove}
use Rattle.cow_deque.proofs.deque.Deque.remove.Goals as goal

pub invariant_of-self-2 : goal.invariant_of-self-2
invariant_of-self-2 g c = (
  rw (c.remove.ensures.ring, c.only.ensures.value)
      (IsSound-remove g.T.Item.IsSettled c.prepare.new.cell.value c.args.i (grind (arith, common_steps)) c.prepare.ensures.sound),
  grind (arith, common_steps, length-remove),
)
