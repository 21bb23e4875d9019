use Rattle.std.proofs.Common.{◌≡◌, ◌+◌, [], ◌∷◌, count_by, Some, sym, ap, ◌∙◌, subst, arith}
use Rattle.std.specs.Option.{option_map}
use Rattle.cow_dict.specs.Dictionaries.{without}
use Rattle.cow_members.specs.Sets.{ChangesTo}
use Rattle.cow_model.specs.Pairs.{value_in}
use Rattle.cow_model.specs.Purse.{unit_if}
use Rattle.kind_dict.proofs.DictCosts.{falls-alone, moved-alone, moved-ended, value-unit}
use Rattle.kind_dict.proofs.Dicts.{does-remove, never-refused}
use Rattle.kind_dict.proofs.dict.remove.Goals as goal

pub returns-in-Ok-None-clause-does : goal.returns-in-Ok-None-clause-does
returns-in-Ok-None-clause-does g c =
    does-remove c.args.key.now c.args.d.now c.remove.new.self c.put_value.ensures.distinct c.requires.ready.small _ _
    (subst (λ a. ChangesTo (without a c.args.d.now.value) c.args.d.now c.remove.new.self) c.by.ensures c.in-Ok-None.ensures.ok) c.in_ok-put_value.ensures.ok

pub returns-in-Ok-Some-clause-does : goal.returns-in-Ok-Some-clause-does
returns-in-Ok-Some-clause-does g c =
    does-remove c.args.key.now c.args.d.now c.remove.new.self c.put_value.ensures.distinct c.requires.ready.small _ _
    (subst (λ a. ChangesTo (without a c.args.d.now.value) c.args.d.now c.remove.new.self) c.by.ensures c.in-Ok-Some.ensures.ok) c.in_ok-put_value.ensures.ok

pub returns-in-Ok-None-clause-paid : goal.returns-in-Ok-None-clause-paid
returns-in-Ok-None-clause-paid g c =
    let f = g.T.Item.is_counted in
    let d = c.args.d.now in
    let all = moved-alone f g.T.Item.WEIGHT d.alone d.value _ _ (count_by f (c.args.key.now ∷ [])) 1 g.met.T.Element.weighs_one c.remove.ensures.paid in
    let down = falls-alone f d.value _ _ _ c.remove.ensures.paid in
    record {
      free = λ e. never-refused c.args.key.now d c.remove.new.self c.put_value.ensures.distinct c.requires.ready.small e;
      hidden = omega arith;
      moved = all;
      falls = omega (arith, down);
    }

pub returns-in-Ok-Some-clause-paid : goal.returns-in-Ok-Some-clause-paid
returns-in-Ok-Some-clause-paid g c =
    let f = g.T.Item.is_counted in
    let plain = g.T.Item.plain in
    let k = c.args.key.now in
    let d = c.args.d.now in
    let x = unit_if (f (plain c.in-Ok-Some.old)) in
    let there : value_in k d.value ≡ Some (plain c.in-Ok-Some.old) =
    ap (λ a. value_in a d.value) (sym c.by.ensures) ∙ sym c.in-Ok-Some.ensures.old ∙ ap (option_map plain) c.in-Ok-Some.field-0-is in
    let held = value-unit f k (plain c.in-Ok-Some.old) d.value there in
    let back : c.end.new.h.spare ≡ c.remove.new.h.spare + x = ap (λ p. p.spare) c.end.ensures in
    let still : c.end.new.h.copied ≡ c.remove.new.h.copied = ap (λ p. p.copied) c.end.ensures in
    let all = moved-ended f g.T.Item.WEIGHT d.alone d.value c.args.h.now c.remove.new.h c.end.new.h x back still held (count_by f (k ∷ [])) 1 g.met.T.Element.weighs_one c.remove.ensures.paid in
    let down = falls-alone f d.value _ _ _ c.remove.ensures.paid in
    record {
      free = λ e. never-refused k d c.remove.new.self c.put_value.ensures.distinct c.requires.ready.small e;
      hidden = omega arith;
      moved = all;
      falls = omega (arith, down, back);
    }
