use Rattle.std.proofs.Common.{◌≡◌, take, sym, ap, ◌∙◌, map, arith}
use Rattle.std.specs.List.{list_all}
use Rattle.std.proofs.lemmas.List.{take_all, length-map}
use Rattle.cow_dict.specs.Dictionaries.{holds}
use Rattle.cow_dict.specs.Storages.{listed, pair_of}
use Rattle.cow_dict.proofs.Calls.{listed-at}
use Rattle.cow_dict.proofs.Questions.{all-on, all-off}
use Rattle.cow_dict.proofs.Sides.{length-side}
use Rattle.cow_dict.proofs.algebra.includes.Goals as goal

pub loop-i-preserved : goal.loop-i-preserved
loop-i-preserved g c =
    let plain = g.K.Item.plain in
    let worth = g.V.Item.plain in
    let others = c.args.others.now in
    let at = listed-at plain worth others.members.keys.items others.values.items c.loop-i.i c.key_at.result.now c.value_at.result.now c.key_at.ensures c.value_at.ensures in
    all-on (holds (listed plain worth c.args.pairs.now)) (listed plain worth others) c.loop-i.i (pair_of (plain c.key_at.result.now) (worth c.value_at.result.now)) at c.loop-i.invariant
    (sym c.has_pair.ensures ∙ c.if-not-has_pair.false)

pub returns-then-not-has_pair : goal.returns-then-not-has_pair
returns-then-not-has_pair g c =
    let plain = g.K.Item.plain in
    let worth = g.V.Item.plain in
    let others = c.args.others.now in
    let at = listed-at plain worth others.members.keys.items others.values.items c.loop-i.i c.key_at.result.now c.value_at.result.now c.key_at.ensures c.value_at.ensures in
    all-off (holds (listed plain worth c.args.pairs.now)) (listed plain worth others) c.loop-i.i (pair_of (plain c.key_at.result.now) (worth c.value_at.result.now)) at
    (sym c.has_pair.ensures ∙ c.if-not-has_pair.true)

pub returns : goal.returns
returns g c =
    let plain = g.K.Item.plain in
    let worth = g.V.Item.plain in
    let others = c.args.others.now in
    let all : take c.loop-i.i (listed plain worth others) ≡ listed plain worth others
    = take_all c.loop-i.i (listed plain worth others) (omega (arith, c.loop-i-test.false, c.len-i-end.ensures, length-side (map plain others.members.keys.items) (map worth others.values.items), length-map others.members.keys.items plain)) in
    sym (ap (list_all (holds (listed plain worth c.args.pairs.now))) (sym all) ∙ c.loop-i.invariant)
