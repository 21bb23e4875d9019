use Rattle.std.proofs.Common.{◌≡◌, List, map, remove, slice_get, Some, sym, ap, subst, ◌∙◌, arith}
use Rattle.std.specs.Prelude.{option_map}
use Rattle.std.proofs.lemmas.Grind.{common_steps}
use Rattle.std.proofs.lemmas.Option.{slice_get-map}
use Rattle.cow_members.specs.Members.{MembersView}
use Rattle.cow_members.proofs.Listed.{map-remove}
use Rattle.cow_model.specs.Flat.{Flat}
use Rattle.cow_model.specs.declared.plain.Literal.{Literal}
use Rattle.cow_ordered.proofs.set.OrderedSet.remove_at.Goals as goal

pub returns-clause-ok : goal.returns-clause-ok
returns-clause-ok g c =
    let i = c.args.i in
    record {
      value = ap (λ (l : List g.row.K.Denot). map g.K.Item.plain l) c.remove_at.ensures.rest
          ∙ ap (λ (m : MembersView g.row.K.Denot). map g.K.Item.plain (remove m.keys.items i)) c.only.ensures.value
          ∙ map-remove g.K.Item.plain c.prepare.new.cell.value.keys.items i
          ∙ ap (λ l. remove l i) c.prepare.ensures.same ∙ ap (λ (f : Flat (List Literal)). remove f.value i) c.self.view_is;
      alone = grind (arith, common_steps);
    }

pub returns-clause-old : goal.returns-clause-old
returns-clause-old g c =
    let i = c.args.i in
    let xs = c.prepare.new.cell.value.keys.items in
    sym (ap (λ (f : Flat (List Literal)). slice_get f.value i) c.self.view_is) ∙ sym (ap (λ l. slice_get l i) c.prepare.ensures.same) ∙ slice_get-map g.K.Item.plain xs i
    ∙ ap (λ o. option_map g.K.Item.plain o) (subst (λ (m : MembersView g.row.K.Denot). slice_get m.keys.items i ≡ Some c.remove_at.result) c.only.ensures.value c.remove_at.ensures.value)
