use Rattle.cow_model.specs.declared.plain.Literal.{Literal}
use Rattle.std.proofs.Common.{◌≡◌, ℕ, Option, ◌+◌, ◌-◌, ◌||◌, not, map, take, take_all, refl, sym, ap, subst, ◌∙◌, arith}
use Rattle.std.proofs.lemmas.List.{length-map}
use Rattle.std.proofs.lemmas.Option.{slice_get-map}
use Rattle.cow_members.specs.Members.{listed as keys_of}
use Rattle.cow_model.specs.Members.{member}
use Rattle.cow_model.specs.Order.{same}
use Rattle.cow_model.specs.Pairs.{value_in}
use Rattle.cow_members.proofs.Loops.{apart-front, fronts-less, fronts-at, some-at, front-more}
use Rattle.cow_dict.specs.Dictionaries.{only_if}
use Rattle.cow_dict.specs.Storages.{listed}
use Rattle.cow_dict.proofs.Calls.{distinct}
use Rattle.cow_dict.proofs.Maps.{map-filter}
use Rattle.cow_dict.proofs.Merges.{kept-all, kept-turn}
use Rattle.cow_dict.proofs.Sides.{keys-side}
use Rattle.cow_dict.proofs.algebra.retain.Goals as goal

pub retain-init : goal.retain-init
retain-init g c =
    let plain = g.K.Item.plain in
    let worth = g.V.Item.plain in
    let pairs = c.args.pairs.now in
    let ks = keys_of plain pairs.members in
    let ps = listed plain worth pairs in
    let all : take c.len-i.result ks ≡ ks = take_all c.len-i.result ks (omega (arith, c.len-i.ensures, length-map pairs.members.keys.items plain)) in
    record {
      whole = c.requires.whole;
      within = omega (arith, c.len-i.ensures);
      front = refl;
      same = λ p h q. kept-all q ps (p q) ∙ ap (λ l. only_if (member q l || p q) (value_in q ps)) (keys-side ks (map worth pairs.values.items) ∙ sym all);
      count = omega arith;
      capacity = refl;
      balance = refl;
      never_less = omega arith;
      copied = refl;
    }

pub retain-preserved : goal.retain-preserved
retain-preserved g c =
    let plain = g.K.Item.plain in
    let worth = g.V.Item.plain in
    let v = c.retain.invariant in
    let u = c.end_unless_kept.ensures in
    let i = c.retain.i - 1 in
    let e : c.retain.i ≡ i + 1 = omega arith in
    let old = keys_of plain c.args.pairs.now.members in
    let now = keys_of plain c.retain.pairs.members in
    let x : Literal → Option Literal = λ q. value_in q (listed plain worth c.args.pairs.now) in
    let fronts : take (i + 1) now ≡ take (i + 1) old = subst (λ (n : ℕ). take n now ≡ take n old) e v.front in
    let it = some-at plain c.retain.pairs.members.keys.items i (omega (arith, v.within)) in
    let a = it.0 in
    let was = fronts-at now old i a fronts (slice_get-map plain c.retain.pairs.members.keys.items i ∙ it.1) in
    record {
      whole = u.whole;
      within = u.within;
      front = u.front ∙ fronts-less now old i fronts;
      same = λ p h q. u.same p h a q it.1 ∙ ap (only_if (not (same q a) || p q)) (v.same p h q)
          ∙ ap (λ l. only_if (not (same q a) || p q) (only_if (member q l || p q) (x q))) (ap (λ (n : ℕ). take n old) e ∙ front-more old i a was)
          ∙ kept-turn a q (p q) (x q) (take i old) (apart-front old i a c.requires.whole.sound.apart was);
      count = omega (arith, u.count, v.count);
      capacity = u.capacity ∙ v.capacity;
      balance = u.balance ∙ v.balance;
      never_less = omega (arith, u.never_less, v.never_less);
      copied = u.copied ∙ v.copied;
    }

pub returns-clause-same : goal.returns-clause-same
returns-clause-same g c = λ p h.
    let plain = g.K.Item.plain in
    let worth = g.V.Item.plain in
    let pairs = c.args.pairs.now in
    let now = c.retain.pairs in
    let old = keys_of plain pairs.members in
    let none : c.retain.i ≡ 0 = omega (arith, c.retain-test.false) in
    map-filter p (listed plain worth pairs) (listed plain worth now)
    (distinct plain worth pairs.members.keys.items pairs.values.items c.requires.whole.sound.apart)
    (distinct plain worth now.members.keys.items now.values.items c.retain.invariant.whole.sound.apart)
    (λ q. c.retain.invariant.same p h q ∙ ap (λ (n : ℕ). only_if (member q (take n old) || p q) (value_in q (listed plain worth pairs))) none)
