use Rattle.cow_members.proofs.Loops.{all-more, all-not}
use Rattle.cow_members.proofs.algebra.all_stay.Goals as goal
use Rattle.cow_members.specs.Sets.{kept_by}
use Rattle.cow_members.specs.Members.{listed}
use Rattle.std.proofs.Common.{◌∙◌, sym}

pub loop-i-preserved : goal.loop-i-preserved
loop-i-preserved g c = all-more g.K.Item.plain (kept_by c.args.keep (listed g.K.Item.plain c.args.others.now)) c.args.members.now.keys.items c.loop-i.i c.get.result.now c.get.ensures c.loop-i.invariant (sym c.is_kept.ensures ∙ c.if-not-is_kept.false)

pub returns-then-not-is_kept : goal.returns-then-not-is_kept
returns-then-not-is_kept g c = all-not g.K.Item.plain (kept_by c.args.keep (listed g.K.Item.plain c.args.others.now)) c.args.members.now.keys.items c.loop-i.i c.get.result.now c.get.ensures (sym c.is_kept.ensures ∙ c.if-not-is_kept.true)
