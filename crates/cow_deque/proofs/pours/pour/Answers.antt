use Rattle.std.proofs.Common.{◌≡◌, ◌+◌, ◌-◌, arith}
use Rattle.cow_row.proofs.Whole.{all_run}
use Rattle.cow_deque.proofs.Growth.{parts, first-run, others-packed, poured, left}
use Rattle.cow_deque.proofs.Rings.{items_of}
use Rattle.cow_deque.proofs.pours.pour.Goals as goal

pub move_into-requires-clause-run : goal.move_into-requires-clause-run
move_into-requires-clause-run g c =
    let cs = c.args.buf.now in
    first-run cs c.args.head c.lesser-first.result (c.args.len - c.lesser-first.result) (items_of cs c.args.head) (parts cs c.args.head c.args.len c.lesser-first.result c.requires.ring (omega (arith, c.lesser-first.ensures, c.capacity.ensures)))

pub move_into-requires-2-clause-run : goal.move_into-requires-2-clause-run
move_into-requires-2-clause-run g c =
    let cs = c.args.buf.now in
    let it = others-packed cs c.args.head c.lesser-first.result (c.args.len - c.lesser-first.result) (items_of cs c.args.head) (parts cs c.args.head c.args.len c.lesser-first.result c.requires.ring (omega (arith, c.lesser-first.ensures, c.capacity.ensures))) in
    all_run c.move_into.new.self 0 (c.args.len - c.lesser-first.result) (rw c.move_into.ensures.left it.0)

pub returns-clause-left : goal.returns-clause-left
returns-clause-left g c =
    let cs = c.args.buf.now in
    left cs c.args.head c.lesser-first.result (c.args.len - c.lesser-first.result) (items_of cs c.args.head) (parts cs c.args.head c.args.len c.lesser-first.result c.requires.ring (omega (arith, c.lesser-first.ensures, c.capacity.ensures)))
    c.move_into.new.self c.move_into-2.new.self c.move_into.ensures.left c.move_into-2.ensures.left

pub returns-clause-ring : goal.returns-clause-ring
returns-clause-ring g c =
    let cs = c.args.buf.now in let a = c.lesser-first.result in let b = c.args.len - a in
    let p = parts cs c.args.head c.args.len a c.requires.ring (omega (arith, c.lesser-first.ensures, c.capacity.ensures)) in
    let all : a + b ≡ c.args.len = omega (arith, c.lesser-first.ensures) in
    rw all at (poured cs c.args.head a b (items_of cs c.args.head) p c.args.wider.now c.move_into.new.other c.move_into.new.self c.move_into-2.new.other c.requires.empty (omega (arith, all, c.requires.room)) c.requires.small c.move_into.ensures.came c.move_into.ensures.left c.move_into-2.ensures.came).0

pub returns-clause-items : goal.returns-clause-items
returns-clause-items g c =
    let cs = c.args.buf.now in let a = c.lesser-first.result in let b = c.args.len - a in
    let p = parts cs c.args.head c.args.len a c.requires.ring (omega (arith, c.lesser-first.ensures, c.capacity.ensures)) in
    (poured cs c.args.head a b (items_of cs c.args.head) p c.args.wider.now c.move_into.new.other c.move_into.new.self c.move_into-2.new.other c.requires.empty (omega (arith, c.lesser-first.ensures, c.requires.room)) c.requires.small c.move_into.ensures.came c.move_into.ensures.left c.move_into-2.ensures.came).1
