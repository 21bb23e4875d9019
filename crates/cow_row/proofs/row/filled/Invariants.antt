use Rattle.std.proofs.Common.{◌≡◌, ◌+◌, map, length, Some}
use Rattle.std.specs.List.{splice}
use Rattle.cow_row.proofs.row.filled.Given as goal

abbrev pub invariant-loop-x : goal.invariant-loop-x
invariant-loop-x g l =
    record {
      place : l.at ≡ l.from + length l.yielded;
      places : l.buf ≡ splice l.initial.buf l.from (l.from + length l.yielded) (map Some l.yielded);
    }
