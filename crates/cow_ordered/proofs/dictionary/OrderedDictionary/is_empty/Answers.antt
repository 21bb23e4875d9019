use Rattle.std.proofs.Common.{◌≡◌, List, length, map, sym, ap, ◌∙◌, arith}
use Rattle.std.proofs.lemmas.List.{nil_from_length}
use Rattle.cow_model.specs.Flat.{Flat}
use Rattle.cow_model.specs.declared.value.Pair.{Pair}
use Rattle.cow_dict.specs.Storages.{PairsView, listed, side_by_side}
use Rattle.cow_dict.proofs.Calls.{count-listed}
use Rattle.cow_ordered.proofs.dictionary.OrderedDictionary.is_empty.Goals as goal

pub returns : goal.returns
returns g c =
    let plain = g.K.Item.plain in
    let worth = g.V.Item.plain in
    let shown = c.get.result.now in
    let same : listed plain worth shown ≡ c.args.self.now.value = ap (λ (s : PairsView g.row.K.Denot g.row.V.Denot). listed plain worth s) c.get.ensures ∙ ap (λ (f : Flat (List Pair)). f.value) c.self.view_is in (
      λ t. sym same ∙ ap (λ (l : List g.row.K.Denot). side_by_side (map plain l) (map worth shown.values.items)) (c.is_empty.ensures.0 t),
      λ e. c.is_empty.ensures.1 (nil_from_length shown.members.keys.items (omega (arith, count-listed plain worth shown.members.keys.items shown.values.items, ap length (same ∙ e)))),
    )
