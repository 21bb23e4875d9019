use Rattle.std.proofs.Common.{rules, arith, ◌≡◌, ◌++◌, ◌∷◌, [], length, sym, ap, ◌∙◌}
use Rattle.std.proofs.lemmas.Grind.{common_steps}
use lib.ListN.{get_elem?}
use Rattle.core.specs.Mem.Slots.{slots_items}
use Rattle.cow_crew.proofs.Carrying.{one_out}
use Rattle.cow_crew.proofs.slots.results.Goals as goal

pub loop-i-preserved : goal.loop-i-preserved
loop-i-preserved g c =
    let inv = c.loop-i.invariant in
    let others = c.take-held.ensures.others in
    let more : c.push.new.self.items ≡ c.loop-i.outs.items ++ c.in-Done.out ∷ [] = first_of (search rules, grind (arith, common_steps)) in
    let long : length c.loop-i.outs.items ≡ c.loop-i.i = first_of (search rules, grind (arith, common_steps)) in
    let ys = slots_items c.args.closed.slots in (
      others.0 ∙ inv.0,
      others.2 ∙ inv.1,
      (first_of (search rules, grind (arith, common_steps))),
      (first_of (search rules, grind (arith, common_steps))),
      (first_of (search rules, grind (arith, common_steps))),
      (first_of (search rules, grind (arith, common_steps))),
      rw more (one_out ys c.loop-i.outs.items c.take-held.result c.in-Done.out (ap (get_elem? ys) long ∙ ap (λ l. get_elem? l c.loop-i.i) (sym inv.0) ∙ c.take-held.ensures.value) c.in-Done.is inv.6),
    )
