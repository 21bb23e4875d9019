use Rattle.std.proofs.Common.{◌∙◌, ◌<◌, ◌≤◌, sym, ap, refl, length, Some, arith}
use Rattle.cow_model.specs.Canon.{is_one}
use Rattle.cow_model.proofs.CanonOrder.{same_is}
use Rattle.cow_model.proofs.CanonRows.{get_or_any}
use Rattle.cow_champ.specs.Node.{pair_of}
use Rattle.cow_champ.proofs.Scan.{get_from, get_end}
use Rattle.cow_trim.proofs.collide.place_of.Goals as goal

pub loop-i-preserved : goal.loop-i-preserved
loop-i-preserved g c =
    let f = pair_of g.K.Item.plain g.V.Item.plain in
    let k = g.E.Equivalent.sought c.args.key.now in
    let within : c.loop-i.i < length c.args.row.now.items = omega (arith, c.loop-i-test.true, c.len-i-end.ensures, c.args.row.now.ok.0) in
    let other = sym (same_is _ _ _ c.stands_for.ensures) ∙ c.if-stands_for.false in
    c.loop-i.invariant ∙ get_from f k c.args.row.now.items c.loop-i.i within c.index.result.now c.index.ensures ∙ rw other refl

pub returns-then-stands_for-clause-here : goal.returns-then-stands_for-clause-here
returns-then-stands_for-clause-here g c x =
    let within : c.loop-i.i < length c.args.row.now.items = omega (arith, c.loop-i-test.true, c.len-i-end.ensures, c.args.row.now.ok.0) in
    ap (λ e. is_one (g.K.Item.plain e.key) (g.E.Equivalent.sought c.args.key.now)) (get_or_any c.args.row.now.items c.loop-i.i x c.index.result.now within ∙ sym c.index.ensures)
    ∙ sym (same_is _ _ _ c.stands_for.ensures) ∙ c.if-stands_for.true

pub returns-then-stands_for-clause-value : goal.returns-then-stands_for-clause-value
returns-then-stands_for-clause-value g c x =
    let f = pair_of g.K.Item.plain g.V.Item.plain in
    let k = g.E.Equivalent.sought c.args.key.now in
    let within : c.loop-i.i < length c.args.row.now.items = omega (arith, c.loop-i-test.true, c.len-i-end.ensures, c.args.row.now.ok.0) in
    let here = sym (same_is _ _ _ c.stands_for.ensures) ∙ c.if-stands_for.true in
    c.loop-i.invariant ∙ get_from f k c.args.row.now.items c.loop-i.i within c.index.result.now c.index.ensures ∙ rw here refl
    ∙ ap (λ e. Some (g.V.Item.plain e.value)) (c.index.ensures ∙ get_or_any c.args.row.now.items c.loop-i.i c.index.result.now x within)

pub returns-clause-absent : goal.returns-clause-absent
returns-clause-absent g c =
    let beyond : length c.args.row.now.items ≤ c.loop-i.i = omega (arith, c.loop-i-test.false, c.len-i-end.ensures, c.args.row.now.ok.0) in
    c.loop-i.invariant ∙ get_end (pair_of g.K.Item.plain g.V.Item.plain) (g.E.Equivalent.sought c.args.key.now) c.args.row.now.items c.loop-i.i beyond
