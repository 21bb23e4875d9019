use Rattle.std.proofs.Common.{◌∙◌}
use Rattle.cow_lexis.proofs.TokenTexts.{space_first}
use Rattle.cow_lexis.proofs.tokens.without_spaces.Goals as goal

pub loop-more-preserved : goal.loop-more-preserved
loop-more-preserved c =
    let more = c.in-Some.ensures in
    space_first c.loop-more.rest.now c.in-Some.more.now more.0 more.1 more.2 ∙ c.loop-more.invariant
