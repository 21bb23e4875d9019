use Rattle.std.proofs.Common.{◌≡◌, List, ◌∷◌, IsPermutation, map, take, true, false, rules, sym, ap, subst, ◌∙◌, arith}
use Rattle.std.proofs.lemmas.List.{take-map}
use Rattle.std.proofs.lemmas.List.Sums.{sum_by-cons}
use Rattle.std.proofs.lemmas.List.Sorted.{sum_by-IsPermutation}
use Rattle.cow_model.specs.Pairs.{value_in}
use Rattle.cow_model.specs.Purse.{Purse}
use Rattle.cow_members.proofs.Keys.{plain-at}
use Rattle.cow_members.proofs.Loops.{front-kept}
use Rattle.cow_dict.specs.Dictionaries.{units}
use Rattle.cow_dict.specs.Storages.{listed, pair_of}
use Rattle.cow_dict.proofs.Calls.{distinct}
use Rattle.cow_dict.proofs.Merges.{value-out, out-turn, stays-turn}
use Rattle.cow_dict.proofs.algebra.end_unless_kept.Goals as goal

pub returns-then-not-stays-clause-same : goal.returns-then-not-stays-clause-same
returns-then-not-stays-clause-same g c = λ p h a q has.
    let plain = g.K.Item.plain in
    let worth = g.V.Item.plain in
    let pairs = c.args.pairs.now in
    let ps = listed plain worth pairs in
    let zs = listed plain worth c.take-key.new.pairs in
    let goes : c.keep-stays.result ≡ false = search rules in
    let here = plain-at plain pairs.members.keys.items c.args.i c.key_at.result.now a c.key_at.ensures has in
    let mine = plain-at plain pairs.members.keys.items c.args.i c.take-key.result.0 a c.take-key.ensures.key has in
    let out = subst (λ b. IsPermutation ps (pair_of b (worth c.take-key.result.1) ∷ zs)) mine c.take-key.ensures.others in
    let gone : p a ≡ false = ap p (sym here) ∙ sym (h _ _ c.keep-stays.ensures) ∙ goes in
    out-turn a q p (value_in q ps) (value_in q zs) gone (value-out ps zs (pair_of a (worth c.take-key.result.1)) (distinct plain worth pairs.members.keys.items pairs.values.items c.requires.whole.sound.apart) out q)

pub returns-else-not-stays-clause-same : goal.returns-else-not-stays-clause-same
returns-else-not-stays-clause-same g c = λ p h a q has.
    let plain = g.K.Item.plain in
    let worth = g.V.Item.plain in
    let pairs = c.args.pairs.now in
    let stays : c.keep-stays.result ≡ true = search rules in
    let here = plain-at plain pairs.members.keys.items c.args.i c.key_at.result.now a c.key_at.ensures has in
    stays-turn a q p (value_in q (listed plain worth pairs)) (ap p (sym here) ∙ sym (h _ _ c.keep-stays.ensures) ∙ stays)

pub returns-then-not-stays-clause-front : goal.returns-then-not-stays-clause-front
returns-then-not-stays-clause-front g c =
    take-map g.K.Item.plain c.args.i c.take-key.new.pairs.members.keys.items
    ∙ ap (λ (l : List g.row.K.Denot). map g.K.Item.plain (take c.args.i l)) c.take-key.ensures.rest
    ∙ ap (λ (l : List g.row.K.Denot). map g.K.Item.plain l) (front-kept c.args.pairs.now.members.keys.items c.args.i c.take-key.result.0 c.requires.within)
    ∙ sym (take-map g.K.Item.plain c.args.i c.args.pairs.now.members.keys.items)

pub returns-then-not-stays-clause-balance : goal.returns-then-not-stays-clause-balance
returns-then-not-stays-clause-balance g c =
    let plain = g.K.Item.plain in
    let worth = g.V.Item.plain in
    let f = units g.K.Item.is_counted g.V.Item.is_counted in
    let ps = listed plain worth c.args.pairs.now in
    let zs = listed plain worth c.take-key.new.pairs in
    let r = pair_of (plain c.take-key.result.0) (worth c.take-key.result.1) in
    omega (
      arith,
      sum_by-IsPermutation f ps (r ∷ zs) c.take-key.ensures.others,
      sum_by-cons f r zs,
      ap (λ (h : Purse). h.spare) c.end.ensures,
      ap (λ (h : Purse). h.spare) c.end-then-not-stays.ensures,
    )
