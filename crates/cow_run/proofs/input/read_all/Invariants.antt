use Rattle.std.proofs.Common.{◌+◌, ◌-◌, ◌≤◌, vec_len}
use Rattle.std.specs.Io.KnownBytes.{Consumes}
use Rattle.cow_run.specs.Input.{max_bytes}
use Rattle.cow_run.proofs.input.read_all.Given as goal

-- what was read is what the source gave
abbrev pub invariant-loop-room : goal.invariant-loop-room
invariant-loop-room g l =
    let left = g.S.Source.left in
    let faults = g.S.Source.faults in
    (faults l.fn.source ≤ faults l.source)
    × Consumes (left l.fn.source) (left l.source) l.bytes.items
    × (vec_len l.bytes ≤ max_bytes + 1)

abbrev pub decreases-loop-room : goal.decreases-loop-room
decreases-loop-room g l = max_bytes + 1 - vec_len l.bytes
