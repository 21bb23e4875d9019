use Rattle.std.proofs.Common.{◌≡◌, false, List, map, subst, ap, ◌∙◌}
use Rattle.std.specs.Prelude.{IfSome, IfNone}
use Rattle.cow_members.specs.Members.{MembersView, HasAt}
use Rattle.cow_model.specs.Flat.{Flat}
use Rattle.cow_model.specs.Members.{member}
use Rattle.cow_model.specs.Pairs.{place_in}
use Rattle.cow_model.specs.declared.value.Pair.{Pair}
use Rattle.cow_dict.specs.Storages.{PairsView}
use Rattle.cow_ordered.proofs.Rows.{place-row}
use Rattle.cow_ordered.proofs.dictionary.OrderedDictionary.index_of.Goals as goal

pub returns : goal.returns
returns g c =
    let plain = g.K.Item.plain in
    let a = g.E.Equivalent.sought c.args.k.now in
    let shown = c.self.inside.cell.value in
    let here = c.members.ensures ∙ ap (λ (s : PairsView g.row.K.Denot g.row.V.Denot). s.members) c.get.ensures in
    place-row plain g.V.Item.plain shown.members.keys.items shown.values.items c.self.invariant.0.sound.apart c.place_of.result a
    (subst (λ (m : MembersView g.row.K.Denot). IfSome c.place_of.result (HasAt plain m a)) here c.place_of.ensures.found)
    (subst (λ (m : MembersView g.row.K.Denot). IfNone c.place_of.result (member a (map plain m.keys.items) ≡ false)) here c.place_of.ensures.absent)
    ∙ ap (λ (f : Flat (List Pair)). place_in a f.value) c.self.view_is
