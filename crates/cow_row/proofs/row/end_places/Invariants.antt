use Rattle.std.proofs.Common.{◌≡◌, map, take, drop, count_by, None}
use Rattle.cow_buf.specs.Places.{blanked}
use Rattle.cow_model.specs.Purse.{more}
use Rattle.cow_row.specs.Places.{somes}
use Rattle.cow_row.proofs.row.end_places.Given as goal

abbrev pub invariant-loop-i : goal.invariant-loop-i
invariant-loop-i g l =
    record {
      places : l.buf ≡ blanked None l.from l.i l.initial.buf;
      paid : l.h ≡ more (count_by g.T.Item.is_counted (map g.T.Item.plain (somes (take l.i (drop l.from l.initial.buf))))) l.initial.h;
    }
