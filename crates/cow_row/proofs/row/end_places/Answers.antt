use Rattle.std.proofs.Common.{◌≡◌, ℕ, ◌+◌, ◌<◌, drop, length, Some, None, sym, ap, ◌∙◌, arith}
use Rattle.std.proofs.lemmas.List.{map-append, get_or-drop}
use Rattle.cow_model.proofs.ListSteps.{count_by_push}
use Rattle.cow_model.specs.Purse.{Purse, more}
use Rattle.cow_row.specs.Places.{place}
use Rattle.cow_row.proofs.Splices.{run-filled, place-blanked, blank-more, items-more}
use Rattle.cow_row.proofs.row.end_places.Goals as goal

more-more : (m n : ℕ) (h : Purse) → more m (more n h) ≡ more (n + m) h
more-more m n h = ap (λ (k : ℕ). record { spare = k; copied = h.copied }) (omega arith)

pub take-requires : goal.take-requires
take-requires g c =
    let it = run-filled c.args.buf.now c.args.from c.args.count c.loop-i.i c.requires.filled (omega arith) in
    (it.0, rw c.loop-i.invariant.places (place-blanked c.args.buf.now c.args.from c.loop-i.i (omega (arith, c.requires.filled.0)) ∙ it.1))

pub loop-i-preserved : goal.loop-i-preserved
loop-i-preserved g c =
    let v = c.loop-i.invariant in
    let cs = c.args.buf.now in
    let within : c.args.from + c.loop-i.i < length cs = omega (arith, c.requires.filled.0) in
    let at : place (drop c.args.from cs) c.loop-i.i ≡ Some c.take.result = get_or-drop c.args.from cs c.loop-i.i None ∙ sym (place-blanked cs c.args.from c.loop-i.i within) ∙ rw v.places at c.take.ensures.value in
    record {
      places = rw (c.take.ensures.places, v.places) (blank-more cs c.args.from c.loop-i.i within);
      paid = rw (items-more (drop c.args.from cs) c.loop-i.i c.take.result at, map-append, count_by_push g.T.Item.is_counted, c.end.ensures, v.paid) (more-more _ _ c.args.h.now);
    }
