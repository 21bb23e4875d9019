use Rattle.std.proofs.Common.{◌≡◌, ◌+◌, ◌^◌}
use Rattle.bench_cell.proofs.get.Given as goal

-- each block took one unit
abbrev pub invariant-loop : goal.invariant-loop
invariant-loop g l = l.h.spare + l.counter ≡ 2 ^ 62
