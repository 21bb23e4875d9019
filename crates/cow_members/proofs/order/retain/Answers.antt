use Rattle.std.proofs.Common.{◌∙◌, arith}
use Rattle.std.proofs.lemmas.List.{length-map}
use Rattle.cow_members.specs.Members.{listed}
use Rattle.cow_members.specs.Sets.{kept_by}
use Rattle.cow_members.proofs.Listed.{whole}
use Rattle.cow_members.proofs.order.retain.Goals as goal

pub returns-clause-same : goal.returns-clause-same
returns-clause-same g c =
    let old = listed g.K.Item.plain c.args.members.now in
    c.shorten.ensures.same ∙ c.gather-kept.ensures.front
    ∙ whole (kept_by c.args.keep (listed g.K.Item.plain c.args.others.now)) c.len-end.result old (omega (arith, c.len-end.ensures.value, length-map c.args.members.now.keys.items g.K.Item.plain))
