use Rattle.std.proofs.Common.{◌≡◌, List, subst, ap, ◌∙◌}
use Rattle.std.specs.List.{list_all}
use Rattle.cow_members.specs.Ascents.{Ascends}
use Rattle.cow_model.specs.Flat.{Flat}
use Rattle.cow_model.specs.declared.value.Pair.{Pair}
use Rattle.cow_dict.specs.Dictionaries.{holds}
use Rattle.cow_dict.specs.Storages.{PairsView, keys, listed, map_of}
use Rattle.cow_dict.proofs.Calls.{ascends-map, distinct}
use Rattle.cow_dict.proofs.Questions.{held-by_key}
use Rattle.cow_dict.proofs.dictionary.Dictionary.includes.Goals as goal

pub returns-clause-value : goal.returns-clause-value
returns-clause-value g c =
    let plain = g.K.Item.plain in
    let worth = g.V.Item.plain in
    let shown = c.self.inside.cell.value in
    let others = c.other.inside.cell.value in
    let d = distinct plain worth shown.members.keys.items shown.values.items c.self.invariant.0.sound.apart in
    let e = distinct plain worth others.members.keys.items others.values.items c.other.invariant.0.sound.apart in
    c.includes.ensures
    ∙ ap (λ (s : PairsView g.row.K.Denot g.row.V.Denot). list_all (holds (listed plain worth s)) (listed plain worth c.get-2.result.now)) c.get.ensures
    ∙ ap (λ (s : PairsView g.row.K.Denot g.row.V.Denot). list_all (holds (listed plain worth shown)) (listed plain worth s)) c.get-2.ensures
    ∙ held-by_key (listed plain worth shown) (listed plain worth others) d e
    ∙ ap (λ (f : Flat (List Pair)). list_all (holds f.value) (map_of plain worth others)) c.self.view_is
    ∙ ap (λ (f : Flat (List Pair)). list_all (holds c.args.self.now.value) f.value) c.other.view_is

pub returns-clause-distinct : goal.returns-clause-distinct
returns-clause-distinct g c =
    let plain = g.K.Item.plain in
    let worth = g.V.Item.plain in
    let shown = c.self.inside.cell.value in
    let others = c.other.inside.cell.value in (
      subst (λ (f : Flat (List Pair)). Ascends (keys f.value)) c.self.view_is (ascends-map plain worth shown.members.keys.items shown.values.items c.self.invariant.0.sound.apart),
      subst (λ (f : Flat (List Pair)). Ascends (keys f.value)) c.other.view_is (ascends-map plain worth others.members.keys.items others.values.items c.other.invariant.0.sound.apart),
    )
