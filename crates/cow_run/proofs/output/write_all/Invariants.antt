use Rattle.std.proofs.Common.{◌-◌, ◌≤◌, take, length}
use Rattle.std.specs.Io.KnownBytes.{Appends}
use Rattle.cow_run.proofs.output.write_all.Given as goal

-- what was written is what stands before the place
abbrev pub invariant-loop-at : goal.invariant-loop-at
invariant-loop-at g l =
    let held = g.K.Sink.held in
    let faults = g.K.Sink.faults in
    (faults l.fn.sink ≤ faults l.sink)
    × Appends (held l.fn.sink) (held l.sink) (take l.at l.text)
    × (l.at ≤ length l.text)

abbrev pub decreases-loop-at : goal.decreases-loop-at
decreases-loop-at g l = length l.text - l.at
