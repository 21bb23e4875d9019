use Rattle.std.proofs.Common.{List, length, map, ◌∷◌, IsPermutation, sym, ap, subst, arith}
use Rattle.std.specs.List.{swap_remove}
use Rattle.cow_dict.specs.Storages.{PairsView, listed, side_by_side, pair_of}
use Rattle.cow_dict.proofs.Sides.{side-out}
use Rattle.cow_dict.proofs.pairs.take.Goals as goal

pub returns-clause-others : goal.returns-clause-others
returns-clause-others g c =
    let plain = g.K.Item.plain in
    let worth = g.V.Item.plain in
    let v = c.pairs.view_is in
    let xs = c.pairs.inside.members.keys.items in
    let ys = c.pairs.inside.values.items in
    let x = c.take-k.result in
    let y = c.swap_remove-v.result in
    let p = pair_of (plain x) (worth y) in
    let keys = ap (λ (s : PairsView g.row.K.Denot g.row.V.Denot). length s.members.keys.items) v in
    let values = ap (λ (s : PairsView g.row.K.Denot g.row.V.Denot). length s.values.items) v in
    subst (λ (s : PairsView g.row.K.Denot g.row.V.Denot). IsPermutation (listed plain worth s) (p ∷ side_by_side (map plain c.take-k.new.members.keys.items) (map worth c.swap_remove-v.new.row.items))) v
    (subst (λ (l : List g.row.K.Denot). IsPermutation (side_by_side (map plain xs) (map worth ys)) (p ∷ side_by_side (map plain l) (map worth c.swap_remove-v.new.row.items))) (sym c.take-k.ensures.rest)
    (subst (λ (l : List g.row.V.Denot). IsPermutation (side_by_side (map plain xs) (map worth ys)) (p ∷ side_by_side (map plain (swap_remove xs c.args.i x)) (map worth l))) (sym c.swap_remove-v.ensures.rest)
    (side-out plain worth xs ys c.args.i x y (omega (arith, keys, values, c.requires.whole.count)) c.take-k.ensures.value c.swap_remove-v.ensures.value)))
