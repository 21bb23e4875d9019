use Rattle.cow_lexis.proofs.LineTexts.{skipped_eight, skipped_first, skipped_none}
use Rattle.cow_lexis.proofs.lines.skip_newlines.Goals as goal

pub loop-more-init : goal.loop-more-init
loop-more-init c = skipped_none c.args.text.now

pub loop-more-preserved : goal.loop-more-preserved
loop-more-preserved c = skipped_eight c.args.text.now c.loop-more.rest.now c.in-Some.more.now c.in-Some.ensures c.loop-more.invariant

pub loop-more-2-preserved : goal.loop-more-2-preserved
loop-more-2-preserved c =
    let more = c.in-Some-behind_byte.ensures in
    skipped_first c.args.text.now c.loop-more-2.rest.now c.in-Some-behind_byte.more.now more.0 more.1 more.2 c.loop-more-2.invariant
