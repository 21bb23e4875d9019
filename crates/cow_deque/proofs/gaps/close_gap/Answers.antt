use Rattle.std.proofs.Common.{◌∙◌, ap, length}
use Rattle.cow_deque.proofs.Openings.{first-gap, last-gap}
use Rattle.cow_deque.proofs.gaps.close_gap.Goals as goal

pub returns-then-i-len : goal.returns-then-i-len
returns-then-i-len g c =
    let it = first-gap c.gap_down.new.buf c.args.head c.args.len c.wrapped.result c.gap_down.ensures.gap (ap length c.gap_down.ensures.items ∙ c.requires.count) (rw c.capacity.ensures at c.wrapped.ensures) in
    record {
      ring = it.0;
      items = it.1 ∙ c.gap_down.ensures.items;
      places = c.gap_down.ensures.places;
    }

pub returns-clause-ring : goal.returns-clause-ring
returns-clause-ring g c = last-gap c.gap_up.new.buf c.args.head c.args.len c.gap_up.ensures.gap (ap length c.gap_up.ensures.items ∙ c.requires.count)
