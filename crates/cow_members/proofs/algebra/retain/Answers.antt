use Rattle.std.proofs.Common.{take_all, refl, ◌≡◌, ℕ, ◌+◌, ◌-◌, ◌&&◌, ◌||◌, not, take, sym, ap, subst, ◌∙◌, arith}
use Rattle.std.proofs.lemmas.List.{length-map}
use Rattle.std.proofs.lemmas.Option.{slice_get-map}
use Rattle.cow_model.specs.Members.{member}
use Rattle.cow_model.specs.Order.{same}
use Rattle.cow_members.specs.Members.{listed}
use Rattle.cow_members.proofs.Loops.{kept-all, kept-turn, apart-front, fronts-less, fronts-at, some-at, front-more}
use Rattle.cow_members.proofs.algebra.retain.Goals as goal
use Rattle.cow_members.specs.Sets.{kept_by}

pub retain-init : goal.retain-init
retain-init g c =
    let old = listed g.K.Item.plain c.args.members.now in
    let all : take c.len-i.result old ≡ old = take_all c.len-i.result old (omega (arith, c.len-i.ensures.value, length-map c.args.members.now.keys.items g.K.Item.plain)) in
    record {
      sound = c.requires.sound;
      capacity = refl;
      within = omega (arith, c.len-i.ensures.value);
      front = refl;
      same = λ q. kept-all q old (kept_by c.args.keep (listed g.K.Item.plain c.args.others.now) q)
          ∙ ap (λ l. member q old && (member q l || kept_by c.args.keep (listed g.K.Item.plain c.args.others.now) q)) (sym all);
      count = omega arith;
      balance = refl;
      never_less = omega arith;
      copied = refl;
    }

pub retain-preserved : goal.retain-preserved
retain-preserved g c =
    let v = c.retain.invariant in
    let i = c.retain.i - 1 in
    let e : c.retain.i ≡ i + 1 = omega arith in
    let old = listed g.K.Item.plain c.args.members.now in
    let now = listed g.K.Item.plain c.retain.members in
    let fronts : take (i + 1) now ≡ take (i + 1) old = subst (λ (n : ℕ). take n now ≡ take n old) e v.front in
    let it = some-at g.K.Item.plain c.retain.members.keys.items i (omega (arith, v.within)) in
    let a = it.0 in
    let was = fronts-at now old i a fronts (slice_get-map g.K.Item.plain c.retain.members.keys.items i ∙ it.1) in
    let kept = kept_by c.args.keep (listed g.K.Item.plain c.args.others.now) in
    let u = c.end_unless_kept.ensures in
    record {
      sound = u.sound;
      capacity = u.capacity ∙ v.capacity;
      within = u.within;
      front = u.front ∙ fronts-less now old i fronts;
      same = λ q. u.same a q it.1 ∙ ap (λ t. t && (not (same q a) || kept q)) (v.same q)
          ∙ ap (λ l. (member q old && (member q l || kept q)) && (not (same q a) || kept q)) (ap (λ (n : ℕ). take n old) e ∙ front-more old i a was)
          ∙ kept-turn q a (member q old) (kept q) (take i old) (apart-front old i a c.requires.sound.apart was);
      count = omega (arith, u.count, v.count);
      balance = u.balance ∙ v.balance;
      never_less = omega (arith, u.never_less, v.never_less);
      copied = u.copied ∙ v.copied;
    }

pub returns-clause-same : goal.returns-clause-same
returns-clause-same g c q =
    let old = listed g.K.Item.plain c.args.members.now in
    let none : c.retain.i ≡ 0 = omega (arith, c.retain-test.false) in
    c.retain.invariant.same q ∙ ap (λ (n : ℕ). member q old && (member q (take n old) || kept_by c.args.keep (listed g.K.Item.plain c.args.others.now) q)) none
