use Rattle.std.proofs.Common.{◌≡◌, ◌+◌, ◌-◌, refl, sym, ap, ◌∙◌, arith, List, length, map, take, remove, count_by}
use Rattle.std.proofs.lemmas.List.{length-map, take_all}
use Rattle.cow_model.specs.Purse.{Purse}
use Rattle.cow_members.specs.Members.{listed}
use Rattle.cow_members.proofs.Orders.{shorter-listed, units-remove}
use Rattle.cow_members.proofs.order.shorten.Goals as goal

pub shorten-init : goal.shorten-init
shorten-init g c = record {
  sound = c.requires.sound;
  capacity = refl;
  within = c.requires.within;
  same = sym (take_all (length c.args.members.now.keys.items) (listed g.K.Item.plain c.args.members.now) (omega (arith, length-map c.args.members.now.keys.items g.K.Item.plain)));
  balance = refl;
  never_less = omega arith;
  copied = refl;
}

pub shorten-preserved : goal.shorten-preserved
shorten-preserved g c =
    let v = c.shorten.invariant in
    let u = c.remove_at.ensures in
    let xs = c.shorten.members.keys.items in
    let ys = c.remove_at.new.members.keys.items in
    let old = listed g.K.Item.plain c.args.members.now in
    let n = length ys in
    let p = g.K.Item.is_counted in
    let end = c.len-end.result - 1 in
    let at : end ≡ n = omega (arith, u.count, c.len-end.ensures.value) in
    let rest : ys ≡ remove xs n = u.rest ∙ ap (λ i. remove xs i) at in
    let long : length xs ≡ n + 1 = sym u.count in
    let spare = ap (λ (h : Purse). h.spare) c.end.ensures in
    record {
      sound = u.sound;
      capacity = u.capacity ∙ v.capacity;
      within = omega (arith, u.count, c.shorten-test.true, c.len.ensures.value);
      same = ap (λ (l : List g.row.K.Denot). map g.K.Item.plain l) rest ∙ shorter-listed g.K.Item.plain xs old n long (v.same ∙ ap (λ k. take k old) long);
      balance = omega (
        arith,
        spare,
        v.balance,
        units-remove g.K.Item.plain p xs end c.remove_at.result u.value,
        ap (λ (l : List g.row.K.Denot). count_by p (map g.K.Item.plain l)) u.rest,
      );
      never_less = omega (arith, spare, v.never_less);
      copied = ap (λ (h : Purse). h.copied) c.end.ensures ∙ v.copied;
    }

pub returns-clause-same : goal.returns-clause-same
returns-clause-same g c =
    let v = c.shorten.invariant in
    v.same ∙ ap (λ k. take k (listed g.K.Item.plain c.args.members.now)) (omega (arith, v.within, c.shorten-test.false, c.len.ensures.value))
