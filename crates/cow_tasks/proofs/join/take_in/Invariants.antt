use Rattle.std.proofs.Common.{◌≡◌, ◌++◌}
use Rattle.cow_tasks.proofs.join.take_in.Given as goal

-- the entries so far are taken
abbrev pub invariant-loop-entry : goal.invariant-loop-entry
invariant-loop-entry g l = l.gives.items ≡ l.fn.gives.items ++ l.yielded
