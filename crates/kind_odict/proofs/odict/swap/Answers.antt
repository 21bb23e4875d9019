use Rattle.std.proofs.Common.{[], count_by, arith}
use Rattle.std.proofs.lemmas.Grind.{common_steps}
use Rattle.kind_dict.proofs.DictCosts.{falls-alone, moved-alone}
use Rattle.kind_odict.proofs.odict.swap.Goals as goal

pub returns-clause-paid : goal.returns-clause-paid
returns-clause-paid g c =
    let f = g.T.Item.is_counted in
    let d = c.args.d.now in
    let all = moved-alone f g.T.Item.WEIGHT d.alone d.value _ _ (count_by f []) 0 g.met.T.Element.weighs_one c.swap_at.ensures.paid in
    let down = falls-alone f d.value _ _ _ c.swap_at.ensures.paid in
    record {
      free = grind (arith, common_steps);
      hidden = omega arith;
      moved = all;
      falls = omega (arith, down);
    }
