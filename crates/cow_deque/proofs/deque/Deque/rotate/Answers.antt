use Rattle.std.proofs.Common.{arith, ap, ◌∙◌}
use Rattle.std.proofs.lemmas.Grind.{common_steps}
use Rattle.cow_deque.specs.Rings.{turned}
use Rattle.cow_deque.proofs.Turns.{map-turned, length-turned, IsSound-turned}
use Rattle.cow_deque.proofs.deque.Deque.rotate.Goals as goal

pub invariant_of-self-2 : goal.invariant_of-self-2
invariant_of-self-2 g c = (
  rw (c.rotate.ensures, c.only.ensures.value)
      (IsSound-turned g.T.Item.IsSettled c.prepare.new.cell.value c.args.k c.prepare.ensures.sound),
  grind (arith, common_steps, length-turned),
)

pub returns-clause-ok : goal.returns-clause-ok
returns-clause-ok g c =
    let both = map-turned g.T.Item.plain c.prepare.new.cell.value.items c.args.k in
    record {
      value = rw (← c.self.view_is, c.rotate.ensures, c.only.ensures.value) (both ∙ ap (turned c.args.k) c.prepare.ensures.same);
      alone = grind (arith, common_steps);
    }
