use Rattle.std.proofs.Common.{◌≤◌, ◌+◌, length}
use Rattle.cow_model.specs.Parse.{script_of}
use Rattle.cow_script.proofs.LinesRead.{ReadSoFar}
use Rattle.cow_script.proofs.script.parse.Given as goal

-- what was read so far, and that there are no more lines than bytes
abbrev pub invariant-loop-empty : goal.invariant-loop-empty
invariant-loop-empty l = ReadSoFar l.reading l.line l.rest (script_of l.bytes) × (l.line + length l.rest ≤ length l.bytes)

abbrev pub decreases-loop-empty : goal.decreases-loop-empty
decreases-loop-empty l = length l.rest
