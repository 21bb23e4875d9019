use Rattle.std.proofs.Common.{◌≡◌, ◌+◌, map, take, count_by}
use Rattle.cow_elements.proofs.reading.read_into.Given as goal

-- the elements so far are those of the literals so far, and so are their units; nothing is counted
abbrev pub invariant-loop-literal : goal.invariant-loop-literal
invariant-loop-literal g l =
    record {
      items : map g.T.Item.plain l.items.items ≡ take l.literal-index l.literals;
      spare : l.h.spare + count_by g.T.Item.is_counted (take l.literal-index l.literals) ≡ l.fn.h.spare;
      copied : l.h.copied ≡ l.fn.h.copied;
    }
