use Rattle.std.proofs.Common.{List, map, sym, ap, ◌∙◌}
use Rattle.cow_members.specs.Members.{MembersView}
use Rattle.cow_model.specs.Flat.{Flat}
use Rattle.cow_model.specs.Members.{ascending}
use Rattle.cow_model.specs.declared.plain.Literal.{Literal}
use Rattle.cow_members.proofs.Keys.{empty-by}
use Rattle.cow_set.proofs.set.Set.is_empty.Goals as goal

pub returns : goal.returns
returns g c =
    let shown = sym (ap (λ (f : Flat (List Literal)). f.value) c.self.view_is) ∙ ap (λ (m : MembersView g.row.K.Denot). ascending (map g.K.Item.plain m.keys.items)) (sym c.get.ensures) in (
      λ t. shown ∙ ap (λ (l : List g.row.K.Denot). ascending (map g.K.Item.plain l)) (c.is_empty.ensures.0 t),
      λ e. c.is_empty.ensures.1 (empty-by g.K.Item.plain c.get.result.now.keys.items (sym shown ∙ e)),
    )
