use Rattle.std.proofs.Common.{◌≡◌, true, false, map, cond, sym, ap, ◌∙◌}
use Rattle.cow_members.proofs.Ascents.{member-ascending}
use Rattle.cow_members.proofs.Sets.{ascending-push}
use Rattle.cow_model.specs.Members.{member, ascending, in_order}
use Rattle.cow_treeset.proofs.distinct.put_key.Goals as goal

pub returns-in-Some-clause-set : goal.returns-in-Some-clause-set
returns-in-Some-clause-set g c =
    let a = g.K.Item.plain c.args.k in
    let xs = map g.K.Item.plain c.args.found.now.keys.items in
    let there : member a (ascending xs) ≡ true = member-ascending a xs ∙ c.in-Some.ensures.there in
    sym (ap (λ b. cond b (ascending xs) (in_order a (ascending xs))) there)

pub returns-in-None-clause-set : goal.returns-in-None-clause-set
returns-in-None-clause-set g c =
    let a = g.K.Item.plain c.args.k in
    let xs = map g.K.Item.plain c.args.found.now.keys.items in
    let absent : member a (ascending xs) ≡ false = member-ascending a xs ∙ c.in-None.ensures.absent in
    ap ascending c.push.ensures.same ∙ ascending-push xs a ∙ sym (ap (λ b. cond b (ascending xs) (in_order a (ascending xs))) absent)
