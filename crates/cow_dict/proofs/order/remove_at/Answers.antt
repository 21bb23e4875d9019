use Rattle.std.proofs.Common.{List, length, map, remove, sym, ap, ◌∙◌, subst, arith}
use Rattle.cow_row.specs.RowView.{RowView}
use Rattle.cow_dict.specs.Storages.{PairsView, AreWhole, listed, side_by_side}
use Rattle.cow_dict.proofs.Orders.{side-removed-at, whole-removed}
use Rattle.cow_dict.proofs.order.remove_at.Goals as goal

pub returns-clause-same : goal.returns-clause-same
returns-clause-same g c =
    let plain = g.K.Item.plain in
    let worth = g.V.Item.plain in
    let v = c.pairs.view_is in
    let i = c.args.i in
    let xs = c.pairs.inside.members.keys.items in
    let ys = c.pairs.inside.values.items in
    let keys = ap (λ (s : PairsView g.row.K.Denot g.row.V.Denot). length s.members.keys.items) v in
    let values = ap (λ (s : PairsView g.row.K.Denot g.row.V.Denot). length s.values.items) v in
    ap (λ (l : List g.row.K.Denot). side_by_side (map plain l) (map worth c.remove-v.new.self.items)) c.remove_at-k.ensures.rest
    ∙ ap (λ (r : RowView g.row.V.Denot). side_by_side (map plain (remove xs i)) (map worth r.items)) c.remove-v.ensures.row
    ∙ side-removed-at plain worth xs ys (omega (arith, keys, values, c.requires.whole.count)) i
    ∙ ap (λ (s : PairsView g.row.K.Denot g.row.V.Denot). remove (listed plain worth s) i) v

pub returns-clause-whole : goal.returns-clause-whole
returns-clause-whole g c =
    let v = c.pairs.view_is in
    let keys = ap (λ (s : PairsView g.row.K.Denot g.row.V.Denot). length s.members.keys.items) v in
    let w = subst (λ (s : PairsView g.row.K.Denot g.row.V.Denot). AreWhole g.K.Item.plain g.K.Key.hash_of g.K.Item.IsSettled g.V.Item.IsSettled s) (sym v) c.requires.whole in
    whole-removed g.K.Item.plain g.K.Key.hash_of g.K.Item.IsSettled g.V.Item.IsSettled _ w c.remove_at-k.new.members c.remove_at-k.ensures.sound c.remove_at-k.ensures.capacity
    c.args.i c.remove-v.new.self (omega (arith, keys, c.requires.within)) c.remove_at-k.ensures.count c.remove-v.ensures.row
