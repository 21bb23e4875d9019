use Rattle.std.proofs.Common.{arith}
use Rattle.std.proofs.lemmas.Grind.{common_steps}
use Rattle.std.proofs.lemmas.List.Edits.{length-swap}
use Rattle.cow_row.proofs.Runs.{IsSound-swap, map-swap}
use Rattle.cow_array.proofs.array.Array.swap_at.Goals as goal

pub invariant_of-self-2 : goal.invariant_of-self-2
invariant_of-self-2 g c = (
  rw (c.swap.ensures, c.only.ensures.value)
      (IsSound-swap g.T.Item.IsSettled c.prepare.new.cell.value c.args.i c.args.j (grind (arith, common_steps)) (grind (arith, common_steps)) c.prepare.ensures.sound),
  grind (arith, common_steps),
  grind (arith, common_steps, length-swap),
)

pub returns-clause-ok : goal.returns-clause-ok
returns-clause-ok g c =
    let both = map-swap g.T.Item.plain c.prepare.new.cell.value.items c.args.i c.args.j (grind (arith, common_steps)) (grind (arith, common_steps)) in
    record {
      value = grind (arith, common_steps, both);
      alone = grind (arith, common_steps);
    }
