use Rattle.std.proofs.Common.{List, length, map, reverse, ap, ◌∙◌, arith}
use Rattle.cow_row.specs.RowView.{RowView}
use Rattle.cow_dict.specs.Storages.{PairsView, listed, side_by_side}
use Rattle.cow_dict.proofs.Orders.{side-reversed}
use Rattle.cow_dict.proofs.order.reverse.Goals as goal

pub returns-clause-same : goal.returns-clause-same
returns-clause-same g c =
    let plain = g.K.Item.plain in
    let worth = g.V.Item.plain in
    let v = c.pairs.view_is in
    let xs = c.pairs.inside.members.keys.items in
    let ys = c.pairs.inside.values.items in
    let keys = ap (λ (s : PairsView g.row.K.Denot g.row.V.Denot). length s.members.keys.items) v in
    let values = ap (λ (s : PairsView g.row.K.Denot g.row.V.Denot). length s.values.items) v in
    ap (λ (l : List g.row.K.Denot). side_by_side (map plain l) (map worth c.reverse-2.new.self.items)) c.reverse.ensures.items
    ∙ ap (λ (r : RowView g.row.V.Denot). side_by_side (map plain (reverse xs)) (map worth r.items)) c.reverse-2.ensures
    ∙ side-reversed plain worth xs ys (omega (arith, keys, values, c.requires.whole.count))
    ∙ ap (λ (s : PairsView g.row.K.Denot g.row.V.Denot). reverse (listed plain worth s)) v
