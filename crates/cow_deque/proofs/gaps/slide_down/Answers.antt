use Rattle.std.proofs.Common.{◌≡◌, ◌+◌, ◌-◌, length, arith, length-set, refl}
use Rattle.cow_deque.proofs.Openings.{gap-down, gap-before}
use Rattle.cow_deque.proofs.Shifts.{length-shifted}
use Rattle.cow_deque.proofs.Slides.{round-before, gap-slid-down}
use Rattle.cow_deque.proofs.gaps.slide_down.Goals as goal

pub take-item-requires : goal.take-item-requires
take-item-requires g c =
    let r = c.requires.gap in let cs = c.args.buf.now in
    let w = rw (c.if-gap-eq0.true, c.capacity-capacity.ensures) at c.wrapped-gap.ensures in
    let e : c.args.k ≡ c.args.k - 1 + 1 = omega (arith, c.requires.some, c.requires.within) in
    rw c.capacity-capacity.ensures (gap-before cs c.args.head (c.args.k - 1) (length cs - 1) (rw e at r) (round-before c.args.head c.args.k (length cs) r.start (omega (arith, c.requires.some, c.requires.within)) (omega (arith, r.within, r.room)) w))

pub put-requires-clause-empty : goal.put-requires-clause-empty
put-requires-clause-empty g c =
    let r = c.requires.gap in let cs = c.args.buf.now in
    let w = rw (c.if-gap-eq0.true, c.capacity-capacity.ensures) at c.wrapped-gap.ensures in
    let e : c.args.k ≡ c.args.k - 1 + 1 = omega (arith, c.requires.some, c.requires.within) in
    let v = round-before c.args.head c.args.k (length cs) r.start (omega (arith, c.requires.some, c.requires.within)) (omega (arith, r.within, r.room)) w in
    rw (c.take-item.ensures.places, c.capacity-capacity.ensures) (gap-down cs c.args.head (c.args.k - 1) 0 (length cs - 1) c.take-item.result (rw e at r) v (rw e at w) (rw c.capacity-capacity.ensures at c.take-item.ensures.value)).0

pub returns-then-gap-eq0 : goal.returns-then-gap-eq0
returns-then-gap-eq0 g c =
    let r = c.requires.gap in let cs = c.args.buf.now in
    let w = rw (c.if-gap-eq0.true, c.capacity-capacity.ensures) at c.wrapped-gap.ensures in
    let e : c.args.k ≡ c.args.k - 1 + 1 = omega (arith, c.requires.some, c.requires.within) in
    let v = round-before c.args.head c.args.k (length cs) r.start (omega (arith, c.requires.some, c.requires.within)) (omega (arith, r.within, r.room)) w in
    let step = gap-down cs c.args.head (c.args.k - 1) 0 (length cs - 1) c.take-item.result (rw e at r) v (rw e at w) (rw c.capacity-capacity.ensures at c.take-item.ensures.value) in
    record {
      gap = rw (c.put.ensures, c.take-item.ensures.places, c.capacity-capacity.ensures) step.1;
      items = rw (c.put.ensures, c.take-item.ensures.places, c.capacity-capacity.ensures) step.2;
      places = rw (c.put.ensures, c.take-item.ensures.places, length-set, length-set) refl;
      some = omega arith;
      most = omega (arith, c.requires.some);
    }

pub shift-requires-clause-run : goal.shift-requires-clause-run
shift-requires-clause-run g c =
    let r = c.requires.gap in
    let e : c.args.k ≡ c.args.k - c.lesser-moved.result + c.lesser-moved.result = omega (arith, c.lesser-moved.ensures, c.requires.within) in
    let p : c.wrapped-gap.result ≡ c.wrapped-gap.result - c.lesser-moved.result + c.lesser-moved.result = omega (arith, c.lesser-moved.ensures) in
    let w = rw (c.capacity-capacity.ensures, e, p) at c.wrapped-gap.ensures in
    (gap-slid-down c.args.buf.now c.args.head (c.args.k - c.lesser-moved.result) c.lesser-moved.result (c.wrapped-gap.result - c.lesser-moved.result) (rw e at r) w).0

pub shift-requires-clause-clear : goal.shift-requires-clause-clear
shift-requires-clause-clear g c =
    let r = c.requires.gap in
    let e : c.args.k ≡ c.args.k - c.lesser-moved.result + c.lesser-moved.result = omega (arith, c.lesser-moved.ensures, c.requires.within) in
    let p : c.wrapped-gap.result ≡ c.wrapped-gap.result - c.lesser-moved.result + c.lesser-moved.result = omega (arith, c.lesser-moved.ensures) in
    let w = rw (c.capacity-capacity.ensures, e, p) at c.wrapped-gap.ensures in
    (gap-slid-down c.args.buf.now c.args.head (c.args.k - c.lesser-moved.result) c.lesser-moved.result (c.wrapped-gap.result - c.lesser-moved.result) (rw e at r) w).1

pub returns : goal.returns
returns g c =
    let r = c.requires.gap in
    let e : c.args.k ≡ c.args.k - c.lesser-moved.result + c.lesser-moved.result = omega (arith, c.lesser-moved.ensures, c.requires.within) in
    let p : c.wrapped-gap.result ≡ c.wrapped-gap.result - c.lesser-moved.result + c.lesser-moved.result = omega (arith, c.lesser-moved.ensures) in
    let w = rw (c.capacity-capacity.ensures, e, p) at c.wrapped-gap.ensures in
    let it = gap-slid-down c.args.buf.now c.args.head (c.args.k - c.lesser-moved.result) c.lesser-moved.result (c.wrapped-gap.result - c.lesser-moved.result) (rw e at r) w in
    record {
      gap = rw c.shift.ensures it.2;
      items = rw c.shift.ensures it.3;
      places = rw c.shift.ensures (length-shifted c.args.buf.now (c.wrapped-gap.result - c.lesser-moved.result) (c.wrapped-gap.result - c.lesser-moved.result + 1) c.lesser-moved.result (omega (arith, w.0)) (omega (arith, w.0)));
      some = omega (arith, c.lesser-moved.ensures, c.requires.some);
      most = omega (arith, c.lesser-moved.ensures);
    }
