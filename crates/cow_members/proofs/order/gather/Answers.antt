use Rattle.std.proofs.Common.{◌≡◌, ◌||◌, leb, refl, sym, ap, ◌∙◌, arith, map, slice_get, Some}
use Rattle.std.specs.Prelude.{option_map}
use Rattle.std.proofs.lemmas.List.{length-map, take_all}
use Rattle.std.proofs.lemmas.Option.{slice_get-map}
use Rattle.cow_members.specs.Members.{listed}
use Rattle.cow_members.specs.Orders.{followed_by, staying}
use Rattle.cow_members.specs.Sets.{kept_by}
use Rattle.cow_members.proofs.Orders.{there, staying-next, staying-none}
use Rattle.cow_members.proofs.order.gather.Goals as goal

pub loop-i-init : goal.loop-i-init
loop-i-init g c = record {
  sound = c.requires.sound;
  count = refl;
  capacity = refl;
  within = omega arith;
  front = sym (staying-none (kept_by c.args.keep (listed g.K.Item.plain c.args.others.now)) c.args.end);
  rest = λ q l. refl;
  units = refl;
}

pub loop-i-preserved : goal.loop-i-preserved
loop-i-preserved g c =
    let v = c.loop-i.invariant in
    let u = c.keep_next-kept.ensures in
    let i = c.loop-i.i in
    let xs = c.loop-i.members.keys.items in
    let ys = c.args.members.now.keys.items in
    let p = kept_by c.args.keep (listed g.K.Item.plain c.args.others.now) in
    let it = there xs i (omega (arith, v.count)) in
    let a = g.K.Item.plain it.0 in
    let was : slice_get (map g.K.Item.plain ys) i ≡ Some a = slice_get-map g.K.Item.plain ys i ∙ ap (λ o. option_map g.K.Item.plain o) (sym (v.rest i (omega arith)) ∙ it.1) in
    record {
      sound = u.sound;
      count = u.count ∙ v.count;
      capacity = u.capacity ∙ v.capacity;
      within = omega (arith, u.most, v.within);
      front = u.front it.0 it.1 ∙ ap (λ l. followed_by (leb c.args.end i || p a) a l) v.front ∙ staying-next p c.args.end (map g.K.Item.plain ys) i a was;
      rest = λ q l. u.rest q (omega (arith, l)) ∙ v.rest q (omega (arith, l));
      units = u.units ∙ v.units;
    }

pub returns-clause-front : goal.returns-clause-front
returns-clause-front g c =
    let old = listed g.K.Item.plain c.args.members.now in
    let p = kept_by c.args.keep (listed g.K.Item.plain c.args.others.now) in
    c.loop-i.invariant.front ∙ ap (λ l. staying p c.args.end l) (take_all c.loop-i.i old (omega (arith, length-map c.args.members.now.keys.items g.K.Item.plain)))
