use Rattle.std.proofs.Common.{◌≡◌, ◌+◌, ◌-◌, ◌<◌, ◌≤◌, ◌⊎◌, inl, length, take, drop, refl, ap, ◌∙◌, arith}
use Rattle.cow_buf.specs.Places.{shifted}
use Rattle.std.proofs.lemmas.Grind.{common_steps}
use Rattle.std.proofs.lemmas.List.{length-take-le, length-drop, map-append, take-map, drop-map}
use Rattle.cow_row.specs.Places.{somes}
use Rattle.cow_row.proofs.Splices.{is_run, items-of-run, emptied, widened, replaced-row, gap-empty, length-splice, length-gapped, All-splice}
use Rattle.cow_row.proofs.Whole.{run-behind-blank}
use Rattle.cow_row.proofs.row.replace_run.Goals as goal

pub shift-requires-clause-run : goal.shift-requires-clause-run
shift-requires-clause-run g c =
    let within = rw (← c.row.view_is) at c.requires.within in
    rw c.end_places.ensures.places (run-behind-blank c.row.inside.buf c.row.inside.front c.row.inside.len c.args.start c.args.count c.row.invariant (omega (arith, within, c.row.invariant.count)))

pub end_places-requires-clause-filled : goal.end_places-requires-clause-filled
end_places-requires-clause-filled g c =
    let within = rw (← c.row.view_is) at c.requires.within in
    is_run c.row.inside.buf c.row.inside.front c.row.inside.len c.args.start c.args.count c.row.invariant (omega (arith, within, c.row.invariant.count))

pub shift-requires-clause-clear : goal.shift-requires-clause-clear
shift-requires-clause-clear g c = λ i low high out.
    let p = c.row.invariant in
    let f = c.row.inside.front in
    let xs = somes c.row.inside.buf in
    let within = rw (← c.row.view_is) at c.requires.within in
    let a : length (take c.args.start xs) ≡ c.args.start = length-take-le c.args.start xs (omega (arith, within)) in
    let b : length (drop (c.args.start + c.args.count) xs) ≡ c.row.inside.len - c.args.start - c.args.count = omega (arith, length-drop (c.args.start + c.args.count) xs, p.count) in
    let apart : (i < f + length (take c.args.start xs) + c.args.count) ⊎ (f + length (take c.args.start xs) + c.args.count + length (drop (c.args.start + c.args.count) xs) ≤ i) = rw (a, b) out in
    rw (c.end_places.ensures.places, emptied c.row.inside.buf f c.row.inside.len c.args.start c.args.count p (omega (arith, within, p.count)))
    (gap-empty f (take c.args.start xs) c.args.count (drop (c.args.start + c.args.count) xs) (length c.row.inside.buf - (f + c.row.inside.len)) i (omega (arith, a, low)) apart)

pub replace_with-requires : goal.replace_with-requires
replace_with-requires g c =
    let p = c.row.invariant in
    let f = c.row.inside.front in
    let cs = c.row.inside.buf in
    let k = c.len-added.result in
    let xs = somes cs in
    let within = rw (← c.row.view_is) at c.requires.within in
    let room = rw (← c.row.view_is) at c.requires.room in
    let added : k ≡ length c.settle_all.new.items.items = grind (arith, common_steps) in
    let a : length (take c.args.start xs) ≡ c.args.start = length-take-le c.args.start xs (omega (arith, within)) in
    let b = length-drop (c.args.start + c.args.count) xs in
    let wide = widened cs f c.row.inside.len c.args.start c.args.count k p (omega (arith, within, p.count)) (omega (arith, room, added, c.settle_all.ensures.count, p.count, p.fits)) in
    let e = c.shift.ensures ∙ ap (λ l. shifted (f + c.args.start + c.args.count) (f + c.args.start + k) (c.row.inside.len - c.args.start - c.args.count) l) c.end_places.ensures.places ∙ wide in
    let long = ap length e ∙ length-gapped f (take c.args.start xs) k (drop (c.args.start + c.args.count) xs) (length cs - (f + c.row.inside.len) + c.args.count - k) in
    let fits : f + c.args.start + length c.settle_all.new.items.items ≤ length c.shift.new.self = omega (arith, long, a, b, added, within, p.count, p.fits) in
    (fits, (λ i low high. rw e (gap-empty f (take c.args.start xs) k (drop (c.args.start + c.args.count) xs) (length cs - (f + c.row.inside.len) + c.args.count - k) i (omega (arith, a, low)) (inl (omega (arith, a, high, added)))), omega (arith, fits, long, p.small, room, within, added, p.count, p.fits, a, b)))

pub invariant_of-row : goal.invariant_of-row
invariant_of-row g c =
    let within = rw (← c.row.view_is) at c.requires.within in
    let room = rw (← c.row.view_is) at c.requires.room in
    let added : c.len-added.result ≡ length c.settle_all.new.items.items = grind (arith, common_steps) in
    let row = replaced-row c.row.inside.buf c.replace_with.new.dest c.row.inside.front c.row.inside.len c.args.start c.args.count c.len-added.result c.settle_all.new.items.items c.row.invariant within (omega (arith, room, added, c.settle_all.ensures.count)) added (rw (c.replace_with.ensures, c.shift.ensures, c.end_places.ensures.places, ← added) refl) in
    row.0

pub returns-clause-same : goal.returns-clause-same
returns-clause-same g c =
    let within = rw (← c.row.view_is) at c.requires.within in
    let room = rw (← c.row.view_is) at c.requires.room in
    let added : c.len-added.result ≡ length c.settle_all.new.items.items = grind (arith, common_steps) in
    let row = replaced-row c.row.inside.buf c.replace_with.new.dest c.row.inside.front c.row.inside.len c.args.start c.args.count c.len-added.result c.settle_all.new.items.items c.row.invariant within (omega (arith, room, added, c.settle_all.ensures.count)) added (rw (c.replace_with.ensures, c.shift.ensures, c.end_places.ensures.places, ← added) refl) in
    record {
      shown = rw (row.1, map-append, map-append, c.settle_all.ensures.same, ← c.row.view_is, take-map, drop-map) refl;
      count = rw (row.1, ← c.row.view_is) (omega (arith, length-splice (somes c.row.inside.buf) c.settle_all.new.items.items c.args.start c.args.count within, c.settle_all.ensures.count));
    }

pub returns-clause-settled : goal.returns-clause-settled
returns-clause-settled g c =
    let within = rw (← c.row.view_is) at c.requires.within in
    let room = rw (← c.row.view_is) at c.requires.room in
    let added : c.len-added.result ≡ length c.settle_all.new.items.items = grind (arith, common_steps) in
    let row = replaced-row c.row.inside.buf c.replace_with.new.dest c.row.inside.front c.row.inside.len c.args.start c.args.count c.len-added.result c.settle_all.new.items.items c.row.invariant within (omega (arith, room, added, c.settle_all.ensures.count)) added (rw (c.replace_with.ensures, c.shift.ensures, c.end_places.ensures.places, ← added) refl) in
    rw row.1 (All-splice g.T.Item.IsSettled (somes c.row.inside.buf) c.settle_all.new.items.items c.args.start (c.args.start + c.args.count) (rw (← c.row.view_is) at c.requires.settled) c.settle_all.ensures.settled)

pub returns-clause-paid : goal.returns-clause-paid
returns-clause-paid g c =
    let within = rw (← c.row.view_is) at c.requires.within in
    rw (c.end_places.ensures.paid, items-of-run c.row.inside.buf c.row.inside.front c.row.inside.len c.args.start c.args.count c.row.invariant (omega (arith, within, c.row.invariant.count)), ← c.row.view_is) refl
