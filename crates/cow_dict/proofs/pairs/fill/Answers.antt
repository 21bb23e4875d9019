use Rattle.std.proofs.Common.{◌≡◌, ◌+◌, List, length, map, count_by, sym, ap, ◌∙◌, arith}
use Rattle.std.proofs.lemmas.List.{take_all, length-map}
use Rattle.cow_dict.specs.Dictionaries.{held}
use Rattle.cow_dict.specs.Storages.{PairsView}
use Rattle.cow_dict.proofs.Sides.{units_side}
use Rattle.cow_dict.proofs.pairs.fill.Goals as goal

pub returns-clause-spends : goal.returns-clause-spends
returns-clause-spends g c =
    let plain = g.K.Item.plain in
    let worth = g.V.Item.plain in
    let f = g.K.Item.is_counted in
    let p = g.V.Item.is_counted in
    let v = c.from.view_is in
    let xs = c.from.inside.members.keys.items in
    let ys = c.from.inside.values.items in
    let keys = ap (λ (s : PairsView g.row.K.Denot g.row.V.Denot). length s.members.keys.items) v in
    let values = ap (λ (s : PairsView g.row.K.Denot g.row.V.Denot). length s.values.items) v in
    let run = ap (λ (l : List g.row.V.Denot). count_by p (map worth l)) (take_all c.len-count.result ys (omega (arith, c.len-count.ensures.value))) in
    let both = units_side f p (map plain xs) (map worth ys) (omega (arith, keys, values, c.requires.whole.count, length-map xs plain, length-map ys worth)) in
    let total : held f p plain worth c.args.from.now ≡ count_by f (map plain xs) + count_by p (map worth ys)
    = sym (ap (λ (s : PairsView g.row.K.Denot g.row.V.Denot). held f p plain worth s) v) ∙ both in
    omega (arith, c.fill.ensures.spends, c.copy_run.ensures.units, run, total)
