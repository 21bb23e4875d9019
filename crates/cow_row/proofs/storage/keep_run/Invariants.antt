use Rattle.std.proofs.Common.{◌≡◌, ◌+◌, ◌≤◌, length, map, take, drop, count_by}
use Rattle.cow_row.proofs.storage.keep_run.Given as goal

abbrev pub invariant-loop-row : goal.invariant-loop-row
invariant-loop-row g l =
    record {
      items : l.row.items ≡ take (length l.row.items) l.fn.row.items;
      within : l.start + l.count ≤ length l.row.items;
      front : l.row.front ≡ l.fn.row.front;
      capacity : l.row.capacity ≡ l.fn.row.capacity;
      spare : l.h.spare + count_by g.T.Item.is_counted (map g.T.Item.plain l.row.items) ≡ l.fn.h.spare + count_by g.T.Item.is_counted (map g.T.Item.plain l.fn.row.items);
      copied : l.h.copied ≡ l.fn.h.copied;
    }

abbrev pub decreases-loop-row : goal.decreases-loop-row
decreases-loop-row g l = length l.row.items

abbrev pub invariant-loop-i : goal.invariant-loop-i
invariant-loop-i g l =
    record {
      items : l.row.items ≡ drop l._i (take (l.start + l.count) l.fn.row.items);
      within : l.start + l.count ≤ length l.fn.row.items;
      front : l.row.front ≡ l.fn.row.front + l._i;
      capacity : l.row.capacity + l._i ≡ l.fn.row.capacity;
      spare : l.h.spare + count_by g.T.Item.is_counted (map g.T.Item.plain l.row.items) ≡ l.fn.h.spare + count_by g.T.Item.is_counted (map g.T.Item.plain l.fn.row.items);
      copied : l.h.copied ≡ l.fn.h.copied;
    }
