use Rattle.std.proofs.Common.{List, length, map, swap, sym, ap, ◌∙◌, subst, arith}
use Rattle.cow_row.specs.RowView.{RowView}
use Rattle.cow_dict.specs.Storages.{PairsView, AreWhole, listed, side_by_side}
use Rattle.cow_dict.proofs.Orders.{side-swapped, whole-swapped}
use Rattle.cow_dict.proofs.order.swap.Goals as goal

pub returns-clause-same : goal.returns-clause-same
returns-clause-same g c =
    let plain = g.K.Item.plain in
    let worth = g.V.Item.plain in
    let v = c.pairs.view_is in
    let i = c.args.i in
    let j = c.args.j in
    let xs = c.pairs.inside.members.keys.items in
    let ys = c.pairs.inside.values.items in
    let keys = ap (λ (s : PairsView g.row.K.Denot g.row.V.Denot). length s.members.keys.items) v in
    let values = ap (λ (s : PairsView g.row.K.Denot g.row.V.Denot). length s.values.items) v in
    ap (λ (l : List g.row.K.Denot). side_by_side (map plain l) (map worth c.swap-2.new.self.items)) c.swap.ensures.items
    ∙ ap (λ (r : RowView g.row.V.Denot). side_by_side (map plain (swap xs i j)) (map worth r.items)) c.swap-2.ensures
    ∙ side-swapped plain worth xs ys (omega (arith, keys, values, c.requires.whole.count)) i j (omega (arith, keys, c.requires.first)) (omega (arith, keys, c.requires.second))
    ∙ ap (λ (s : PairsView g.row.K.Denot g.row.V.Denot). swap (listed plain worth s) i j) v

pub returns-clause-whole : goal.returns-clause-whole
returns-clause-whole g c =
    let v = c.pairs.view_is in
    let keys = ap (λ (s : PairsView g.row.K.Denot g.row.V.Denot). length s.members.keys.items) v in
    let w = subst (λ (s : PairsView g.row.K.Denot g.row.V.Denot). AreWhole g.K.Item.plain g.K.Key.hash_of g.K.Item.IsSettled g.V.Item.IsSettled s) (sym v) c.requires.whole in
    whole-swapped g.K.Item.plain g.K.Key.hash_of g.K.Item.IsSettled g.V.Item.IsSettled _ w c.swap.new.members c.swap.ensures.sound c.swap.ensures.capacity
    c.args.i c.args.j c.swap-2.new.self (omega (arith, keys, c.requires.first)) (omega (arith, keys, c.requires.second)) c.swap.ensures.count c.swap-2.ensures
