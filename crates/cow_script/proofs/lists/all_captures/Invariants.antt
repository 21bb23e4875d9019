use Rattle.std.proofs.Common.{length}
use Rattle.cow_script.proofs.CaptureLists.{CapturesSoFar}
use Rattle.cow_script.proofs.lists.all_captures.Given as goal

abbrev pub invariant-loop-token : goal.invariant-loop-token
invariant-loop-token l = CapturesSoFar l.captures.items l.due l.tokens l.fn.tokens

abbrev pub decreases-loop-token : goal.decreases-loop-token
decreases-loop-token l = length l.tokens
