use Rattle.std.proofs.Common.{◌≡◌, List, slice_get, Some, subst}
use Rattle.cow_model.specs.Flat.{Flat}
use Rattle.cow_model.specs.declared.value.Pair.{Pair}
use Rattle.cow_dict.specs.Storages.{PairsView, pair_of}
use Rattle.cow_dict.proofs.Calls.{listed-at}
use Rattle.cow_ordered.proofs.dictionary.OrderedDictionary.remove_at.Goals as goal

pub returns-clause-old : goal.returns-clause-old
returns-clause-old g c =
    let plain = g.K.Item.plain in
    let worth = g.V.Item.plain in
    let i = c.args.i in
    let ready = c.prepare.new.cell.value in
    let x = c.remove_at.result.0 in
    let y = c.remove_at.result.1 in
    let key = subst (λ (s : PairsView g.row.K.Denot g.row.V.Denot). slice_get s.members.keys.items i ≡ Some x) c.only.ensures.value c.remove_at.ensures.key in
    let value = subst (λ (s : PairsView g.row.K.Denot g.row.V.Denot). slice_get s.values.items i ≡ Some y) c.only.ensures.value c.remove_at.ensures.value in
    subst (λ (f : Flat (List Pair)). slice_get f.value i ≡ Some (pair_of (plain x) (worth y))) c.self.view_is
    (subst (λ (l : List Pair). slice_get l i ≡ Some (pair_of (plain x) (worth y))) c.prepare.ensures.same
    (listed-at plain worth ready.members.keys.items ready.values.items i x y key value))
