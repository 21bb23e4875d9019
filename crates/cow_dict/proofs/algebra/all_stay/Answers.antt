use Rattle.std.proofs.Common.{◌≡◌, map, take, true, false, rules, refl, sym, ap, ◌∙◌, arith}
use Rattle.std.specs.List.{list_all}
use Rattle.std.proofs.lemmas.List.{take_all}
use Rattle.cow_members.proofs.Loops.{all-more, all-not}
use Rattle.cow_dict.proofs.Calls.{keys-map}
use Rattle.cow_dict.proofs.Questions.{all-ascending}
use Rattle.cow_dict.proofs.algebra.all_stay.Goals as goal

pub loop-i-init : goal.loop-i-init
loop-i-init g c = λ p h. refl

pub loop-i-preserved : goal.loop-i-preserved
loop-i-preserved g c = λ p h.
    let stays : c.keep.result ≡ true = search rules in
    all-more g.K.Item.plain p c.args.pairs.now.members.keys.items c.loop-i.i c.key_at.result.now c.key_at.ensures (c.loop-i.invariant p h) (sym (h _ _ c.keep.ensures) ∙ stays)

pub returns-then-not-keep : goal.returns-then-not-keep
returns-then-not-keep g c = λ p h.
    let goes : c.keep.result ≡ false = search rules in
    let pairs = c.args.pairs.now in
    all-not g.K.Item.plain p pairs.members.keys.items c.loop-i.i c.key_at.result.now c.key_at.ensures (sym (h _ _ c.keep.ensures) ∙ goes)
    ∙ all-ascending p (map g.K.Item.plain pairs.members.keys.items)
    ∙ ap (list_all p) (sym (keys-map g.K.Item.plain g.V.Item.plain pairs.members.keys.items pairs.values.items))

pub returns : goal.returns
returns g c = λ p h.
    let pairs = c.args.pairs.now in
    let all : take c.loop-i.i pairs.members.keys.items ≡ pairs.members.keys.items = take_all c.loop-i.i pairs.members.keys.items (omega (arith, c.loop-i-test.false, c.len-i-end.ensures)) in
    sym (c.loop-i.invariant p h) ∙ ap (λ l. list_all p (map g.K.Item.plain l)) all
    ∙ all-ascending p (map g.K.Item.plain pairs.members.keys.items)
    ∙ ap (list_all p) (sym (keys-map g.K.Item.plain g.V.Item.plain pairs.members.keys.items pairs.values.items))
