use Rattle.std.proofs.Common.{◌-◌, ◌^◌}
use Rattle.cow_table.proofs.Sizes.{Growing}
use Rattle.cow_table.proofs.ring.grown.Given as goal

abbrev pub invariant-grow : goal.invariant-grow
invariant-grow l = Growing l.count l.size

abbrev pub decreases-grow : goal.decreases-grow
decreases-grow l = 2 ^ 32 - l.size
