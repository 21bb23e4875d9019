-- One more copy.
use Rattle.std.proofs.Common.{◌≡◌, ◌∙◌, ◌+◌, ◌*◌, ◌<◌, ◌≤◌, arith, length, map, take, get_or, List, [], ◌∷◌, ◌++◌, Result, Ok, Err, true, false, not, sym, ap, refl, subst, All, cond}
use Rattle.std.proofs.lemmas.List.{take_more, map-append}
use Rattle.std.proofs.lemmas.List.Elements.{All-push}
use Rattle.std.specs.Result.{is_err, is_ok}
use Rattle.cow_champ.specs.Node.{pair_of, BothSettled}
use Rattle.cow_champ.proofs.Spendings.{spends_step, spends_upto}
use Rattle.cow_champ.proofs.Changes.{pushed, copied_more}
use Rattle.cow_champ.proofs.rows.copy_entries.Goals as goal

pub copy_entry-copy-requires-clause-spare : goal.copy_entry-copy-requires-clause-spare
copy_entry-copy-requires-clause-spare g c =
    let l : c.loop-e.e-index < length c.args.row.now.items = rw (← c.deref-e-items.ensures.value) c.loop-e-test.true in
    omega (arith, l, c.requires.spare, c.loop-e.invariant.2.falls)

pub returns-then-is_err-clause-spent : goal.returns-then-is_err-clause-spent
returns-then-is_err-clause-spent g c =
    let l : c.loop-e.e-index < length c.args.row.now.items = rw (← c.deref-e-items.ensures.value) c.loop-e-test.true in
    spends_upto 2 (2 * length c.args.row.now.items) (g.K.Item.WEIGHT + g.V.Item.WEIGHT) (c.loop-e.e-index + 1) (length c.args.row.now.items) c.args.h.now c.copy_entry-copy.new.h (omega (arith, l)) (omega (arith, l))
    (spends_step 2 (g.K.Item.WEIGHT + g.V.Item.WEIGHT) c.loop-e.e-index _ _ _ c.loop-e.invariant.2 c.copy_entry-copy.ensures.spent)

pub loop-e-preserved : goal.loop-e-preserved
loop-e-preserved g c =
    let plain = pair_of g.K.Item.plain g.V.Item.plain in
    let items = pushed _ _ _ _ (sym c.is_err.ensures.value ∙ c.if-is_err.false) c.push.ensures.items in
    rw items (
      copied_more plain c.loop-e.copies.items c.args.row.now.items c.loop-e.e-index _ c.e-item.result (rw (← c.deref-e-items.ensures.value) c.loop-e-test.true) (rw (← c.deref-e-items.ensures.value) c.e-item.is) c.copy_entry-copy.ensures.pair c.loop-e.invariant.0,
      All-push (BothSettled g.K.Item.IsSettled g.V.Item.IsSettled) _ _ c.loop-e.invariant.1 c.copy_entry-copy.ensures.settled,
      spends_step 2 (g.K.Item.WEIGHT + g.V.Item.WEIGHT) c.loop-e.e-index _ _ _ c.loop-e.invariant.2 c.copy_entry-copy.ensures.spent,
    )
