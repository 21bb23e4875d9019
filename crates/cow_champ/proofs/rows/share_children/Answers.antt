use Rattle.std.proofs.Common.{◌≡◌, ◌∙◌, ◌+◌, ◌<◌, ◌≤◌, arith, length, sym, ap, refl}
use Rattle.cow_champ.proofs.rows.share_children.Goals as goal

pub share_settled-requires-clause-spare : goal.share_settled-requires-clause-spare
share_settled-requires-clause-spare g c =
    let l : c.loop-c.c-index < length c.args.row.now.items = rw (← c.deref-c-items.ensures.value) c.loop-c-test.true in
    omega (arith, l, c.requires.spare, c.loop-c.invariant.2.falls)
