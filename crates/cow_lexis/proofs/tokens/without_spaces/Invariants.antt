use Rattle.std.proofs.Common.{◌≡◌, length}
use Rattle.cow_model.specs.Lexis.{tokens_of}
use Rattle.cow_lexis.proofs.tokens.without_spaces.Given as goal

abbrev pub invariant-loop-more : goal.invariant-loop-more
invariant-loop-more l = tokens_of l.rest ≡ tokens_of l.line

abbrev pub decreases-loop-more : goal.decreases-loop-more
decreases-loop-more l = length l.rest
