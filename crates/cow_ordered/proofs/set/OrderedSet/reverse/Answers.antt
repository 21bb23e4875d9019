use Rattle.std.proofs.Common.{List, map, reverse, ap, ◌∙◌, arith}
use Rattle.std.proofs.lemmas.Grind.{common_steps}
use Rattle.cow_members.specs.Members.{MembersView}
use Rattle.cow_model.specs.Flat.{Flat}
use Rattle.cow_model.specs.declared.plain.Literal.{Literal}
use Rattle.cow_row.proofs.Runs.{map-reverse}
use Rattle.cow_ordered.proofs.set.OrderedSet.reverse.Goals as goal

pub returns-clause-ok : goal.returns-clause-ok
returns-clause-ok g c = record {
  value = ap (λ (l : List g.row.K.Denot). map g.K.Item.plain l) c.reverse.ensures.items
      ∙ ap (λ (m : MembersView g.row.K.Denot). map g.K.Item.plain (reverse m.keys.items)) c.only.ensures.value
      ∙ map-reverse g.K.Item.plain c.prepare.new.cell.value.keys.items
      ∙ ap (λ l. reverse l) c.prepare.ensures.same ∙ ap (λ (f : Flat (List Literal)). reverse f.value) c.self.view_is;
  alone = grind (arith, common_steps);
}
