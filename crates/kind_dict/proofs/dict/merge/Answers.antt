use Rattle.std.proofs.Common.{arith}
use Rattle.std.proofs.lemmas.Grind.{common_steps}
use Rattle.kind_dict.proofs.DictCosts.{falls-with, moved-with}
use Rattle.kind_dict.proofs.dict.merge.Goals as goal

pub returns-clause-paid : goal.returns-clause-paid
returns-clause-paid g c =
    let f = g.T.Item.is_counted in
    let ps = c.args.d.now.value in
    let rs = c.args.other.now.value in
    let all = moved-with f g.T.Item.WEIGHT c.args.d.now.alone ps _ _ rs (grind (arith, common_steps)) c.merge.ensures.paid in
    let down = falls-with f g.T.Item.WEIGHT c.args.d.now.alone ps _ _ rs _ c.merge.ensures.paid in
    record {
      free = grind (arith, common_steps);
      hidden = grind (arith, common_steps);
      moved = all;
      falls = omega (arith, down);
    }
