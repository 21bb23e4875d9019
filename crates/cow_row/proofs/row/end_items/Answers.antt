use Rattle.std.proofs.Common.{◌≡◌, ◌+◌, take, drop, refl, arith, ◌∙◌}
use Rattle.std.proofs.lemmas.List.{take_all}
use Rattle.cow_row.specs.Places.{somes}
use Rattle.cow_row.proofs.Splices.{items-of-run}
use Rattle.cow_row.proofs.Whole.{all_run, IsPacked-ended, somes-ended, length-ended}
use Rattle.cow_row.proofs.row.end_items.Goals as goal

pub end_places-requires-clause-filled : goal.end_places-requires-clause-filled
end_places-requires-clause-filled g c = all_run c.row.inside.buf c.row.inside.front c.row.inside.len c.row.invariant

pub invariant_of-row : goal.invariant_of-row
invariant_of-row g c = rw c.end_places.ensures.places (IsPacked-ended c.row.inside.buf c.row.inside.front c.row.inside.len c.row.invariant)

pub returns-clause-empty : goal.returns-clause-empty
returns-clause-empty g c =
    let p = c.row.invariant in let cs = c.row.inside.buf in
    rw (c.end_places.ensures.places, somes-ended cs c.row.inside.front c.row.inside.len p, length-ended cs c.row.inside.front c.row.inside.len p, ← c.row.view_is) refl

pub returns-clause-paid : goal.returns-clause-paid
returns-clause-paid g c =
    let p = c.row.invariant in let cs = c.row.inside.buf in let f = c.row.inside.front in let n = c.row.inside.len in
    let z : f + 0 ≡ f = omega arith in
    let run : somes (take n (drop f cs)) ≡ take n (somes cs) = rw z at (items-of-run cs f n 0 n p (omega arith)) in
    let all : somes (take n (drop f cs)) ≡ somes cs = run ∙ take_all n (somes cs) (omega (arith, p.count)) in
    rw (c.end_places.ensures.paid, all, ← c.row.view_is) refl
