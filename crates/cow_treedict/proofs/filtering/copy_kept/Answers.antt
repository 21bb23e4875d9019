use Rattle.std.proofs.Common.{◌≡◌, ◌+◌, ◌∷◌, [], ◌++◌, map, take, ap, ◌∙◌, arith}
use Rattle.std.proofs.lemmas.List.{take_all}
use Rattle.cow_champ.proofs.Spendings.{spends_step}
use Rattle.cow_champ.specs.Node.{hashed, seen_pair}
use Rattle.cow_dict.specs.Dictionaries.{kept_by}
use Rattle.cow_model.specs.Canon.{count_where}
use Rattle.cow_treedict.proofs.Filters.{kept-turn, count-turn, seen-more}
use Rattle.cow_treedict.proofs.filtering.copy_kept.Goals as goal

pub loop-t-preserved : goal.loop-t-preserved
loop-t-preserved g c =
    let f = hashed g.K.Item.plain g.V.Item.plain in
    let seen = seen_pair g.K.Item.plain g.V.Item.plain in
    let rs = c.deref-t-items.result.now in
    let i = c.loop-t.t-index in
    let x = c.t-item.result in
    let v = c.loop-t.invariant in
    let u = c.push_kept.ensures in
    let more : map seen (take (i + 1) rs) ≡ map seen (take i rs) ++ seen x ∷ [] = seen-more seen rs i x c.loop-t-test.true c.t-item.is in
    record {
      hashes = u.hashes;
      same = λ p h. kept-turn p (map f c.push_kept.new.into.items) (map f c.loop-t.into.items) (map f c.args.into.now.items) (map seen (take i rs)) (map seen (take (i + 1) rs)) (seen x) (u.same p h) (v.same p h) more;
      fewer = λ t. count-turn t (map f c.push_kept.new.into.items) (map f c.loop-t.into.items) (map f c.args.into.now.items) (map seen (take i rs)) (map seen (take (i + 1) rs)) (seen x) (u.fewer t) (v.fewer t) more;
      most = omega (arith, u.most, v.most);
      room = omega (arith, u.room, v.room);
      spent = spends_step 2 (g.K.Item.WEIGHT + g.V.Item.WEIGHT) i c.args.h.now c.loop-t.h c.push_kept.new.h v.spent u.spent;
    }

pub returns-clause-same : goal.returns-clause-same
returns-clause-same g c = λ p h.
    let seen = seen_pair g.K.Item.plain g.V.Item.plain in
    let old = map (hashed g.K.Item.plain g.V.Item.plain) c.args.into.now.items in
    c.loop-t.invariant.same p h ∙ ap (λ l. old ++ kept_by p (map seen l)) (take_all c.loop-t.t-index c.deref-t-items.result.now c.loop-t-test.false ∙ c.deref-t-items.ensures.value)

pub returns-clause-fewer : goal.returns-clause-fewer
returns-clause-fewer g c = λ t.
    let seen = seen_pair g.K.Item.plain g.V.Item.plain in
    let n = ap (λ l. count_where t (map seen l)) (take_all c.loop-t.t-index c.deref-t-items.result.now c.loop-t-test.false ∙ c.deref-t-items.ensures.value) in
    omega (arith, c.loop-t.invariant.fewer t, n)
