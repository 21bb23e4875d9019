use Rattle.std.proofs.Common.{◌≡◌, ◌≤◌, ◌-◌, length}
use Rattle.cow_row.specs.Places.{somes}
use Rattle.cow_deque.specs.Rings.{turned, HasGap}
use Rattle.cow_deque.proofs.gaps.gap_down.Given as goal

abbrev pub invariant-loop-k : goal.invariant-loop-k
invariant-loop-k g l =
    record {
      gap : HasGap l.buf l.head l.k;
      within : l.to ≤ l.k;
      items : somes (turned l.head l.buf) ≡ somes (turned l.head l.initial.buf);
      places : length l.buf ≡ length l.initial.buf;
    }

abbrev pub decreases-loop-k : goal.decreases-loop-k
decreases-loop-k g l = l.k - l.to
