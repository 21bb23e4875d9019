use Rattle.std.proofs.Common.{◌≡◌, ◌≤◌, ◌^◌, true}
use Rattle.bench_hashed.proofs.pairs.emptied.Given as goal

abbrev pub invariant-loop-i : goal.invariant-loop-i
invariant-loop-i g l = record { alone : l.d.alone ≡ true; spare : 2 ^ 40 ≤ l.h.spare }
