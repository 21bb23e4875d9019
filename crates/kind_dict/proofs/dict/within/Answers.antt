use Rattle.std.proofs.Common.{count_by, arith, rules}
use Rattle.std.proofs.lemmas.Grind.{common_steps}
use Rattle.cow_model.specs.Members.{member}
use Rattle.kind_dict.proofs.DictCosts.{falls-alone, moved-alone}
use Rattle.kind_dict.proofs.Dicts.{length_within}
use Rattle.kind_dict.proofs.dict.within.Goals as goal

pub returns-clause-does : goal.returns-clause-does
returns-clause-does g c =
    let v = c.args.members.now.value in
    let few = length_within c.args.d.now.value v in
    let ok = c.in_ok-filter_keys.ensures.ok (λ k. member k v) (λ k b post. search rules) in
    grind (arith, common_steps, few, ok)

pub returns-clause-paid : goal.returns-clause-paid
returns-clause-paid g c =
    let f = g.T.Item.is_counted in
    let ps = c.args.d.now.value in
    let few = length_within ps c.args.members.now.value in
    let all = moved-alone f g.T.Item.WEIGHT c.args.d.now.alone ps _ _ (count_by f c.args.members.now.value) 0 (grind (arith, common_steps)) c.filter_keys.ensures.paid in
    let down = falls-alone f ps _ _ _ c.filter_keys.ensures.paid in
    record {
      free = grind (arith, common_steps, few);
      hidden = grind (arith, common_steps);
      moved = all;
      falls = omega (arith, down);
    }
