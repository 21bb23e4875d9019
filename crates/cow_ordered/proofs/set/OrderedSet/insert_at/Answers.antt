use Rattle.std.proofs.Common.{List, count_by, map, sym, ap, ◌∙◌, arith}
use Rattle.cow_members.specs.Members.{MembersView}
use Rattle.cow_members.proofs.Keys.{held-unit}
use Rattle.cow_model.specs.Flat.{Flat}
use Rattle.cow_model.specs.Purse.{Purse}
use Rattle.cow_model.specs.declared.plain.Literal.{Literal}
use Rattle.cow_ordered.proofs.set.OrderedSet.insert_at.Goals as goal

pub returns-in-Some-clause-paid : goal.returns-in-Some-clause-paid
returns-in-Some-clause-paid g c =
    let p = g.K.Item.is_counted in
    let held = sym (ap (λ (f : Flat (List Literal)). count_by p f.value) c.self.view_is)
    ∙ ap (λ (m : MembersView g.row.K.Denot). count_by p (map g.K.Item.plain m.keys.items)) (sym c.get.ensures) in
    let one = held-unit g.K.Item.plain p c.get.result.now.keys.items (g.K.Item.plain c.args.k) c.in-Some.field-0 c.in-Some.ensures.found in
    let spare = ap (λ (h : Purse). h.spare) c.end.ensures in
    let copied = ap (λ (h : Purse). h.copied) c.end.ensures in
    record {
      falls = omega (arith, spare);
      rises = omega (arith, spare, held, one);
      copied = omega (arith, copied);
      kept = omega (arith, copied);
    }
