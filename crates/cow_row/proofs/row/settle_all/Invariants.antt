use Rattle.std.proofs.Common.{◌≡◌, map, take, length, All}
use Rattle.cow_row.proofs.row.settle_all.Given as goal

abbrev pub invariant-loop-i : goal.invariant-loop-i
invariant-loop-i g l =
    record {
      same : map g.T.Item.plain l.items.items ≡ map g.T.Item.plain l.initial.items.items;
      count : length l.items.items ≡ length l.initial.items.items;
      settled : All g.T.Item.IsSettled (take l.i l.items.items);
    }
