use Rattle.std.proofs.Common.{◌≡◌, ◌+◌, length, arith, ap, ◌∙◌, append-nil, length-append, map, refl}
use Rattle.std.proofs.lemmas.List.{map-append, length-map}
use Rattle.std.proofs.lemmas.List.Sums.{count_by-le-length}
use Rattle.cow_deque.proofs.Rings.{bare-ring, All-both}
use Rattle.cow_deque.proofs.ring.copy_items.Goals as goal

pub replace_with-left-requires : goal.replace_with-left-requires
replace_with-left-requires g c =
    let front = c.as_slices.result.0.now in let rest = c.as_slices.result.1.now in
    let long = length-append front rest in
    let count : length c.args.from.now.items ≡ c.from.inside.len = rw (← c.from.view_is) c.from.invariant.packed.count in
    let both = All-both g.T.Item.IsSettled front rest c.args.from.now.items c.as_slices.ensures c.requires.settled in
    let bare = bare-ring c.to.inside.buf c.to.inside.head c.to.inside.len c.to.invariant (rw (← c.to.view_is) at c.requires.empty) in
    let room = rw (← c.to.view_is) at c.requires.room in
    (omega (arith, long, ap length c.as_slices.ensures, c.requires.small), (both.0, (bare.0, (rw bare.1 (λ k d l. absurd (omega (arith, l))), (omega (arith, long, ap length c.as_slices.ensures, room), rw c.split.ensures.part (omega (arith, long, ap length c.as_slices.ensures, count)))))))

pub replace_with-left-requires-2 : goal.replace_with-left-requires-2
replace_with-left-requires-2 g c =
    let front = c.as_slices.result.0.now in let rest = c.as_slices.result.1.now in
    let long = length-append front rest in
    let count : length c.args.from.now.items ≡ c.from.inside.len = rw (← c.from.view_is) c.from.invariant.packed.count in
    let both = All-both g.T.Item.IsSettled front rest c.args.from.now.items c.as_slices.ensures c.requires.settled in
    let first = c.replace_with-left.ensures in
    let z : 0 + length front ≡ length front = omega arith in
    let room = rw (← c.to.view_is) at c.requires.room in
    let paid = rw c.split.ensures.part at first.1.1.1.1.0 in
    let most = count_by-le-length g.T.Item.is_counted (map g.T.Item.plain front) in
    (omega (arith, long, ap length c.as_slices.ensures, c.requires.small), (both.1, (rw z at first.0, (first.1.1.1.0, (omega (arith, long, ap length c.as_slices.ensures, room, first.1.0), omega (arith, long, ap length c.as_slices.ensures, count, paid, most, length-map front g.T.Item.plain))))))

pub returns-clause-same : goal.returns-clause-same
returns-clause-same g c =
    let front = c.as_slices.result.0.now in let rest = c.as_slices.result.1.now in
    let bare = bare-ring c.to.inside.buf c.to.inside.head c.to.inside.len c.to.invariant (rw (← c.to.view_is) at c.requires.empty) in
    let first = rw bare.1 at c.replace_with-left.ensures.1.1.0 in
    rw append-nil (c.replace_with-left-2.ensures.1.1.0 ∙ rw (map-append, first, ← map-append, c.as_slices.ensures) refl)
