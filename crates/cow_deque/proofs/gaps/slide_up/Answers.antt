use Rattle.std.proofs.Common.{◌+◌, length, arith, length-set, refl}
use Rattle.cow_deque.proofs.Openings.{gap-up, gap-behind}
use Rattle.cow_deque.proofs.Shifts.{length-shifted}
use Rattle.cow_deque.proofs.Slides.{round-next, gap-slid-up}
use Rattle.cow_deque.proofs.gaps.slide_up.Goals as goal

pub take-item-requires : goal.take-item-requires
take-item-requires g c =
    let r = c.requires.gap in let cs = c.args.buf.now in
    let w = rw c.capacity-capacity.ensures at c.wrapped-gap.ensures in
    gap-behind cs c.args.head c.args.k 0 r (omega (arith, c.requires.some, c.requires.within)) (round-next c.args.head c.args.k (length cs) c.wrapped-gap.result r.start (omega (arith, c.requires.some, c.requires.within, r.room)) w (omega (arith, c.capacity-capacity.ensures)))

pub put-requires-clause-empty : goal.put-requires-clause-empty
put-requires-clause-empty g c =
    let r = c.requires.gap in let cs = c.args.buf.now in
    let w = rw c.capacity-capacity.ensures at c.wrapped-gap.ensures in
    let v = round-next c.args.head c.args.k (length cs) c.wrapped-gap.result r.start (omega (arith, c.requires.some, c.requires.within, r.room)) w (omega (arith, c.capacity-capacity.ensures)) in
    rw c.take-item.ensures.places (gap-up cs c.args.head c.args.k c.wrapped-gap.result 0 c.take-item.result r (omega (arith, c.requires.some, c.requires.within)) v w c.take-item.ensures.value).0

pub returns-then-gap-capacity : goal.returns-then-gap-capacity
returns-then-gap-capacity g c =
    let r = c.requires.gap in let cs = c.args.buf.now in
    let w = rw c.capacity-capacity.ensures at c.wrapped-gap.ensures in
    let v = round-next c.args.head c.args.k (length cs) c.wrapped-gap.result r.start (omega (arith, c.requires.some, c.requires.within, r.room)) w (omega (arith, c.capacity-capacity.ensures)) in
    let step = gap-up cs c.args.head c.args.k c.wrapped-gap.result 0 c.take-item.result r (omega (arith, c.requires.some, c.requires.within)) v w c.take-item.ensures.value in
    record {
      gap = rw (c.put.ensures, c.take-item.ensures.places) step.1;
      items = rw (c.put.ensures, c.take-item.ensures.places) step.2;
      places = rw (c.put.ensures, c.take-item.ensures.places, length-set, length-set) refl;
      some = omega arith;
      most = omega (arith, c.requires.some);
    }

pub shift-requires-clause-run : goal.shift-requires-clause-run
shift-requires-clause-run g c =
    let w = rw c.capacity-capacity.ensures at c.wrapped-gap.ensures in
    (gap-slid-up c.args.buf.now c.args.head c.args.k c.lesser-moved.result c.wrapped-gap.result c.requires.gap (omega (arith, c.requires.within, c.lesser-moved.ensures)) w (omega (arith, c.lesser-moved.ensures, c.capacity-capacity.ensures, w.0))).0

pub shift-requires-clause-clear : goal.shift-requires-clause-clear
shift-requires-clause-clear g c =
    let w = rw c.capacity-capacity.ensures at c.wrapped-gap.ensures in
    (gap-slid-up c.args.buf.now c.args.head c.args.k c.lesser-moved.result c.wrapped-gap.result c.requires.gap (omega (arith, c.requires.within, c.lesser-moved.ensures)) w (omega (arith, c.lesser-moved.ensures, c.capacity-capacity.ensures, w.0))).1

pub returns : goal.returns
returns g c =
    let w = rw c.capacity-capacity.ensures at c.wrapped-gap.ensures in
    let it = gap-slid-up c.args.buf.now c.args.head c.args.k c.lesser-moved.result c.wrapped-gap.result c.requires.gap (omega (arith, c.requires.within, c.lesser-moved.ensures)) w (omega (arith, c.lesser-moved.ensures, c.capacity-capacity.ensures, w.0)) in
    record {
      gap = rw c.shift.ensures it.2;
      items = rw c.shift.ensures it.3;
      places = rw c.shift.ensures (length-shifted c.args.buf.now (c.wrapped-gap.result + 1) c.wrapped-gap.result c.lesser-moved.result (omega (arith, c.lesser-moved.ensures, c.capacity-capacity.ensures, w.0)) (omega (arith, c.lesser-moved.ensures, c.capacity-capacity.ensures, w.0)));
      some = omega (arith, c.lesser-moved.ensures, c.requires.some, c.capacity-capacity.ensures, w.0);
      most = omega (arith, c.lesser-moved.ensures);
    }
