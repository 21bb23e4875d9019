use Rattle.std.proofs.Common.{◌≡◌, ◌≤◌, ◌^◌, length, true}
use Rattle.bench_array.proofs.set.Given as goal

abbrev pub invariant-loop : goal.invariant-loop
invariant-loop g l = record { alone : l.a.alone ≡ true; count : length l.a.value ≡ l.size; spare : 2 ^ 40 ≤ l.h.spare }

abbrev pub invariant-loop-i : goal.invariant-loop-i
invariant-loop-i g l = record { alone : l.a.alone ≡ true; count : length l.a.value ≡ l.size; spare : 2 ^ 40 ≤ l.h.spare }
