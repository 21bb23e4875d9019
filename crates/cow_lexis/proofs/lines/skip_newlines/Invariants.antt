use Rattle.std.proofs.Common.{length}
use Rattle.cow_lexis.proofs.LineTexts.{Skipped}
use Rattle.cow_lexis.proofs.lines.skip_newlines.Given as goal

abbrev pub invariant-loop-more : goal.invariant-loop-more
invariant-loop-more l = Skipped l.text l.rest

abbrev pub decreases-loop-more : goal.decreases-loop-more
decreases-loop-more l = length l.rest

abbrev pub invariant-loop-more-2 : goal.invariant-loop-more-2
invariant-loop-more-2 l = Skipped l.text l.rest

abbrev pub decreases-loop-more-2 : goal.decreases-loop-more-2
decreases-loop-more-2 l = length l.rest
