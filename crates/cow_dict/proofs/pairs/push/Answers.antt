use Rattle.std.proofs.Common.{length, map, ◌++◌, ◌∷◌, [], ap, ◌∙◌, arith}
use Rattle.std.proofs.lemmas.List.{length-map}
use Rattle.cow_row.specs.RowView.{RowView}
use Rattle.cow_dict.specs.Storages.{PairsView, listed, side_by_side, pair_of}
use Rattle.cow_dict.proofs.Sides.{side-pushed}
use Rattle.cow_dict.proofs.pairs.push.Goals as goal

pub returns-clause-same : goal.returns-clause-same
returns-clause-same g c =
    let plain = g.K.Item.plain in
    let worth = g.V.Item.plain in
    let v = c.pairs.view_is in
    let ks = map plain c.pairs.inside.members.keys.items in
    let ys = c.pairs.inside.values.items in
    let keys = ap (λ (s : PairsView g.row.K.Denot g.row.V.Denot). length s.members.keys.items) v in
    let values = ap (λ (s : PairsView g.row.K.Denot g.row.V.Denot). length s.values.items) v in
    ap (λ l. side_by_side l (map worth c.push-2.new.self.items)) c.push.ensures.same
    ∙ ap (λ (r : RowView g.row.V.Denot). side_by_side (ks ++ plain c.args.k ∷ []) (map worth r.items)) c.push-2.ensures
    ∙ side-pushed plain worth ks ys (plain c.args.k) c.settle.new.self (omega (arith, keys, values, c.requires.whole.count, length-map c.pairs.inside.members.keys.items plain))
    ∙ ap (λ w. side_by_side ks (map worth ys) ++ pair_of (plain c.args.k) w ∷ []) c.settle.ensures.same
    ∙ ap (λ (s : PairsView g.row.K.Denot g.row.V.Denot). listed plain worth s ++ pair_of (plain c.args.k) (worth c.args.v) ∷ []) v
