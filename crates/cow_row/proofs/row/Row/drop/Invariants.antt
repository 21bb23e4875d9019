use Rattle.std.proofs.Common.{◌≡◌, None}
use Rattle.cow_buf.specs.Places.{blanked}
use Rattle.cow_row.proofs.row.Row.drop.Given as goal

abbrev pub invariant-loop-i : goal.invariant-loop-i
invariant-loop-i g l = l.buf ≡ blanked None l.front l.i l.initial.buf
