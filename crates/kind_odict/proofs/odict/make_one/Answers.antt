use Rattle.std.proofs.Common.{◌≡◌, Option, None, Some, sym, ap, ◌∙◌, arith}
use Rattle.std.specs.Option.{option_map}
use Rattle.cow_model.specs.Pairs.{value_in}
use Rattle.std.proofs.lemmas.Grind.{common_steps}
use Rattle.kind_dict.proofs.PairUnits.{new-key, there-key}
use Rattle.kind_odict.proofs.PairUnits.{new-units, there-units}
use Rattle.kind_odict.proofs.odict.make_one.Goals as goal

pub returns-in-Ok-None-clause-units : goal.returns-in-Ok-None-clause-units
returns-in-Ok-None-clause-units g c =
    let f = g.T.Item.is_counted in
    let ps = c.args.d.now.value in
    let e : None ≡ value_in (g.T.Item.plain c.in_ok-k.k) ps = sym (ap (option_map g.T.Item.plain) c.in-Ok-None.field-0-is) ∙ c.in-Ok-None.ensures.old in
    let exact = c.in-Ok-None.ensures.exact c.requires.alone in
    grind (arith, common_steps, exact, new-units f _ (g.T.Item.plain c.in-Ok.v) ps e, new-key f _ ps e)

pub returns-in-Ok-Some-clause-units : goal.returns-in-Ok-Some-clause-units
returns-in-Ok-Some-clause-units g c =
    let f = g.T.Item.is_counted in
    let ps = c.args.d.now.value in
    let e : Some (g.T.Item.plain c.in-Ok-Some.old) ≡ value_in (g.T.Item.plain c.in_ok-k.k) ps = sym (ap (option_map g.T.Item.plain) c.in-Ok-Some.field-0-is) ∙ c.in-Ok-Some.ensures.old in
    let exact = c.in-Ok-Some.ensures.exact c.requires.alone in
    grind (arith, common_steps, exact, there-units f _ (g.T.Item.plain c.in-Ok.v) _ ps e, there-key f _ _ ps e)
