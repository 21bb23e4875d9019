use Rattle.std.proofs.Common.{◌≡◌, List, map, slice_get, Some, sym, ap, subst, ◌∙◌}
use Rattle.cow_members.specs.Members.{MembersView, HasAt}
use Rattle.cow_members.specs.Ascents.{Ascends}
use Rattle.cow_model.specs.Flat.{Flat}
use Rattle.cow_model.specs.Members.{ascending, member}
use Rattle.cow_model.specs.Pairs.{value_in}
use Rattle.cow_model.specs.declared.value.Pair.{Pair}
use Rattle.cow_dict.specs.Storages.{PairsView, keys}
use Rattle.cow_ordered.proofs.Rows.{ascends-listed, value-row, value-none-row}
use Rattle.cow_ordered.proofs.dictionary.OrderedDictionary.get.Goals as goal

pub returns-in-Some-clause-value : goal.returns-in-Some-clause-value
returns-in-Some-clause-value g c =
    let plain = g.K.Item.plain in
    let a = g.E.Equivalent.sought c.args.k.now in
    let shown = c.self.inside.cell.value in
    value-row plain g.V.Item.plain shown.members.keys.items shown.values.items c.self.invariant.0.sound.apart a c.in-Some.i c.value_at.result.now
    (subst (λ (m : MembersView g.row.K.Denot). HasAt plain m a c.in-Some.i) (c.members.ensures ∙ ap (λ (s : PairsView g.row.K.Denot g.row.V.Denot). s.members) c.get-shown.ensures) c.in-Some.ensures.found)
    (subst (λ (s : PairsView g.row.K.Denot g.row.V.Denot). slice_get s.values.items c.in-Some.i ≡ Some c.value_at.result.now) c.get-shown.ensures c.value_at.ensures)
    ∙ ap (λ (f : Flat (List Pair)). value_in a f.value) c.self.view_is

pub returns-in-None-clause-value : goal.returns-in-None-clause-value
returns-in-None-clause-value g c =
    let plain = g.K.Item.plain in
    let a = g.E.Equivalent.sought c.args.k.now in
    let shown = c.self.inside.cell.value in
    value-none-row plain g.V.Item.plain shown.members.keys.items shown.values.items c.self.invariant.0.sound.apart a
    (ap (λ (m : MembersView g.row.K.Denot). member a (map plain m.keys.items)) (sym (c.members.ensures ∙ ap (λ (s : PairsView g.row.K.Denot g.row.V.Denot). s.members) c.get-shown.ensures)) ∙ c.in-None.ensures.absent)
    ∙ ap (λ (f : Flat (List Pair)). value_in a f.value) c.self.view_is

pub returns-in-Some-clause-distinct : goal.returns-in-Some-clause-distinct
returns-in-Some-clause-distinct g c =
    let shown = c.self.inside.cell.value in
    subst (λ (f : Flat (List Pair)). Ascends (ascending (keys f.value))) c.self.view_is (ascends-listed g.K.Item.plain g.V.Item.plain shown.members.keys.items shown.values.items c.self.invariant.0.sound.apart)

pub returns-in-None-clause-distinct : goal.returns-in-None-clause-distinct
returns-in-None-clause-distinct g c =
    let shown = c.self.inside.cell.value in
    subst (λ (f : Flat (List Pair)). Ascends (ascending (keys f.value))) c.self.view_is (ascends-listed g.K.Item.plain g.V.Item.plain shown.members.keys.items shown.values.items c.self.invariant.0.sound.apart)
