use Rattle.std.proofs.Common.{◌∙◌, arith, ap, length}
use Rattle.cow_deque.proofs.Openings.{gap-first, gap-last}
use Rattle.cow_deque.proofs.gaps.make_gap.Goals as goal

pub gap_up-requires-clause-gap : goal.gap_up-requires-clause-gap
gap_up-requires-clause-gap g c = (gap-first c.args.buf.now c.args.head c.args.len c.wrapped-before.result c.requires.ring c.requires.room (rw c.capacity-capacity.ensures at c.wrapped-before.ensures)).0

pub gap_up-requires-clause-within : goal.gap_up-requires-clause-within
gap_up-requires-clause-within g c =
    let it = gap-first c.args.buf.now c.args.head c.args.len c.wrapped-before.result c.requires.ring c.requires.room (rw c.capacity-capacity.ensures at c.wrapped-before.ensures) in
    omega (arith, ap length it.1, c.requires.ring.packed.count, c.requires.place)

pub returns-then-i-len-clause-items : goal.returns-then-i-len-clause-items
returns-then-i-len-clause-items g c =
    c.gap_up.ensures.items ∙ (gap-first c.args.buf.now c.args.head c.args.len c.wrapped-before.result c.requires.ring c.requires.room (rw c.capacity-capacity.ensures at c.wrapped-before.ensures)).1

pub gap_down-requires-clause-gap : goal.gap_down-requires-clause-gap
gap_down-requires-clause-gap g c = gap-last c.args.buf.now c.args.head c.args.len c.requires.ring c.requires.room
