use borrow.Author.Tests.{eqb-true, eq-eqb}
use Rattle.std.proofs.Common.{◌≡◌, length, map, sym, ap, ◌∙◌, arith}
use Rattle.std.proofs.lemmas.List.{length-map}
use Rattle.cow_dict.specs.Storages.{listed}
use Rattle.cow_dict.proofs.Calls.{distinct}
use Rattle.cow_dict.proofs.Maps.{length-by_key}
use Rattle.cow_dict.proofs.Questions.{equal-by, equal-back}
use Rattle.cow_dict.proofs.Sides.{length-side}
use Rattle.cow_dict.proofs.algebra.equal.Goals as goal

pub returns-then-len : goal.returns-then-len
returns-then-len g c =
    let plain = g.K.Item.plain in
    let worth = g.V.Item.plain in
    let pairs = c.args.pairs.now in
    let others = c.args.others.now in
    let ps = listed plain worth pairs in
    let rs = listed plain worth others in
    let d = distinct plain worth pairs.members.keys.items pairs.values.items c.requires.whole.sound.apart in
    let e = distinct plain worth others.members.keys.items others.values.items c.requires.others.sound.apart in
    let n : length ps ≡ length rs = omega (
      arith,
      c.len.ensures,
      c.len-2.ensures,
      length-side (map plain pairs.members.keys.items) (map worth pairs.values.items),
      length-side (map plain others.members.keys.items) (map worth others.values.items),
      length-map pairs.members.keys.items plain,
      length-map others.members.keys.items plain,
    ) in
    (λ t. equal-by ps rs d e n (sym c.includes.ensures ∙ t), λ same. c.includes.ensures ∙ equal-back ps rs d e same)

pub returns-else-len : goal.returns-else-len
returns-else-len g c =
    let plain = g.K.Item.plain in
    let worth = g.V.Item.plain in
    let pairs = c.args.pairs.now in
    let others = c.args.others.now in (
      λ e. absurd (omega (arith, eqb-true c.len.result c.len-2.result e)),
      λ e. eq-eqb c.len.result c.len-2.result (omega (
        arith,
        c.len.ensures,
        c.len-2.ensures,
        ap length e,
        length-by_key (listed plain worth pairs),
        length-by_key (listed plain worth others),
        length-side (map plain pairs.members.keys.items) (map worth pairs.values.items),
        length-side (map plain others.members.keys.items) (map worth others.values.items),
        length-map pairs.members.keys.items plain,
        length-map others.members.keys.items plain,
      )),
    )
