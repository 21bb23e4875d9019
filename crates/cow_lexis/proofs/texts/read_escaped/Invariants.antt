use Rattle.std.proofs.Common.{length, true}
use Rattle.cow_lexis.specs.Cuts.{and_front, front_of}
use Rattle.cow_lexis.proofs.FrontTexts.{EscapedSoFar}
use Rattle.cow_lexis.proofs.texts.read_escaped.Given as goal

abbrev pub invariant-loop-escaped : goal.invariant-loop-escaped
invariant-loop-escaped l = EscapedSoFar (and_front l.fn.content.items (front_of true l.text)) l.content.items l.rest

abbrev pub decreases-loop-escaped : goal.decreases-loop-escaped
decreases-loop-escaped l = length l.rest
