use Rattle.std.proofs.Common.{◌≡◌, length, true}
use Rattle.bench_array.proofs.filled.Given as goal

abbrev pub invariant-loop-i : goal.invariant-loop-i
invariant-loop-i g l = record { alone : l.a.alone ≡ true; count : length l.a.value ≡ l.i; same : l.h ≡ l.initial.h }
