use Rattle.std.proofs.Common.{◌≡◌, ◌+◌, ◌++◌, ◌≤◌, length, map, take, count_by, All}
use Rattle.cow_row.specs.Places.{somes, IsPacked}
use Rattle.cow_deque.proofs.ring.with_twins.Given as goal

abbrev pub invariant-loop-i : goal.invariant-loop-i
invariant-loop-i g l =
    record {
      behind : l.n ≡ l.len + l.i;
      packed : IsPacked l.to 0 l.n;
      long : length l.to ≡ length l.initial.to;
      same : map g.T.Item.plain (somes l.to) ≡ map g.T.Item.plain (somes l.initial.to) ++ map g.T.Item.plain (take l.i l.from);
      settled : All g.T.Item.IsSettled (somes l.to);
      units : l.h.spare + count_by g.T.Item.is_counted (map g.T.Item.plain (take l.i l.from)) ≡ l.initial.h.spare;
      left : l.initial.h.spare ≤ l.h.spare + l.i;
      copied : l.h.copied ≡ l.initial.h.copied;
    }
