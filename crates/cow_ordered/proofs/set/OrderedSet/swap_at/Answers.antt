use Rattle.std.proofs.Common.{◌≡◌, List, length, map, swap, ap, ◌∙◌, arith}
use Rattle.std.proofs.lemmas.Grind.{common_steps}
use Rattle.std.proofs.lemmas.List.{length-map}
use Rattle.cow_members.specs.Members.{MembersView}
use Rattle.cow_model.specs.Flat.{Flat}
use Rattle.cow_model.specs.declared.plain.Literal.{Literal}
use Rattle.cow_row.proofs.Runs.{map-swap}
use Rattle.cow_ordered.proofs.set.OrderedSet.swap_at.Goals as goal

pub returns-clause-ok : goal.returns-clause-ok
returns-clause-ok g c =
    let i = c.args.i in
    let j = c.args.j in
    let xs = c.prepare.new.cell.value.keys.items in
    let long : length xs ≡ length c.args.self.now.value = omega (arith, length-map xs g.K.Item.plain, ap length c.prepare.ensures.same, ap (λ (f : Flat (List Literal)). length f.value) c.self.view_is) in
    record {
      value = ap (λ (l : List g.row.K.Denot). map g.K.Item.plain l) c.swap.ensures.items
          ∙ ap (λ (m : MembersView g.row.K.Denot). map g.K.Item.plain (swap m.keys.items i j)) c.only.ensures.value
          ∙ map-swap g.K.Item.plain xs i j (omega (arith, long, c.requires.first)) (omega (arith, long, c.requires.second))
          ∙ ap (λ l. swap l i j) c.prepare.ensures.same ∙ ap (λ (f : Flat (List Literal)). swap f.value i j) c.self.view_is;
      alone = grind (arith, common_steps);
    }
