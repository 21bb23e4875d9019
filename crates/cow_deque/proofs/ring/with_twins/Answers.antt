use Rattle.std.proofs.Common.{◌≡◌, ◌+◌, ◌<◌, length, refl, arith, append_assoc, length-set}
use Rattle.std.proofs.lemmas.List.{map-append}
use Rattle.cow_model.proofs.ListSteps.{map-take-more, All-push, All-at, count_by_push, unit_if-le}
use Rattle.cow_row.proofs.Packed.{IsPacked-push, somes-push}
use Rattle.cow_row.proofs.Whole.{past_none}
use Rattle.cow_deque.proofs.ring.with_twins.Goals as goal

pub twin-requires-clause-settled : goal.twin-requires-clause-settled
twin-requires-clause-settled g c = All-at g.T.Item.IsSettled c.args.run.0.now c.loop-i.i c.item.result.now c.requires.from_settled c.item.ensures

pub put-requires-clause-empty : goal.put-requires-clause-empty
put-requires-clause-empty g c = past_none c.loop-i.to 0 c.loop-i.n c.loop-i.n c.loop-i.invariant.packed (omega arith)

pub loop-i-preserved : goal.loop-i-preserved
loop-i-preserved g c =
    let v = c.loop-i.invariant in
    let from = c.args.run.0.now in let x = c.twin.result in
    let one = unit_if-le (g.T.Item.is_counted (g.T.Item.plain c.item.result.now)) in
    let more = map-take-more g.T.Item.plain from c.loop-i.i c.item.result.now c.item.ensures in
    let room : 0 + c.loop-i.n < length c.loop-i.to = omega (arith, v.behind, v.long, c.requires.room) in
    let z : 0 + c.loop-i.n ≡ c.loop-i.n = omega arith in
    let shown = rw z at (somes-push c.loop-i.to 0 c.loop-i.n x v.packed room) in
    record {
      behind = omega (arith, v.behind);
      packed = rw c.put.ensures (rw z at (IsPacked-push c.loop-i.to 0 c.loop-i.n x v.packed room));
      long = rw (c.put.ensures, length-set) v.long;
      same = rw (c.put.ensures, shown, map-append, more, v.same, c.twin.ensures.same, append_assoc) refl;
      settled = rw (c.put.ensures, shown) (All-push g.T.Item.IsSettled _ x v.settled c.twin.ensures.settled);
      units = rw (more, count_by_push g.T.Item.is_counted) (rw c.twin.ensures.paid (omega (arith, one, v.left, v.units, c.requires.spare)));
      left = rw c.twin.ensures.paid (omega (arith, one, v.left));
      copied = rw c.twin.ensures.paid v.copied;
    }
