use Rattle.std.proofs.Common.{arith}
use Rattle.std.proofs.lemmas.Grind.{common_steps}
use Rattle.cow_row.specs.RowView.{IsSound}
use Rattle.cow_deque.proofs.Turns.{IsSound-rest}
use Rattle.cow_deque.proofs.deque.Deque.pop_first.Goals as goal

pub invariant_of-self-2 : goal.invariant_of-self-2
invariant_of-self-2 g c =
    let sound : IsSound g.T.Item.IsSettled c.only.result.now = rw c.only.ensures.value c.prepare.ensures.sound in
    let rest = IsSound-rest g.T.Item.IsSettled c.only.result.now c.pop_front.new.self c.pop_front.result c.pop_front.ensures.kept c.pop_front.ensures.value c.pop_front.ensures.capacity sound in
    (rest.0, grind (arith, common_steps, rest.1))
