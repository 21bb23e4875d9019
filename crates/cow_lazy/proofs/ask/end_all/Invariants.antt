use Rattle.std.proofs.Common.{◌≡◌, ◌+◌, length, map, count_by}
use Rattle.cow_lazy.proofs.ask.end_all.Given as goal

-- the units so far, and then those of the elements to come
abbrev pub invariant-loop-x : goal.invariant-loop-x
invariant-loop-x g l =
    record {
      spare : l.h.spare + count_by g.T.Item.is_counted (map g.T.Item.plain l.items.items) ≡ l.fn.h.spare + count_by g.T.Item.is_counted (map g.T.Item.plain l.fn.items.items);
      copied : l.h.copied ≡ l.fn.h.copied;
    }

abbrev pub decreases-loop-x : goal.decreases-loop-x
decreases-loop-x g l = length l.items.items
