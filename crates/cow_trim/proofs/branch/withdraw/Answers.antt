-- The entry leaves its row, and its digit the map.
use Rattle.std.proofs.Common.{◌≡◌, ◌+◌, ◌<◌, length, arith, eq-eqb}
use Rattle.std.specs.List.{remove}
use Rattle.std.specs.Int.{bit_at}
use Rattle.std.proofs.lemmas.List.Edits.{length-remove}
use Rattle.cow_model.proofs.CanonRanks.{rank-lt}
use Rattle.cow_champ.specs.Node.{BothSettled}
use Rattle.cow_champ.proofs.Changes.{All-remove}
use Rattle.cow_champ.proofs.RowSlots.{slots_entry}
use Rattle.cow_trim.proofs.Withdrawn.{Fits-withdrawn, slots_withdrawn_here, slots_withdrawn_others}
use Rattle.cow_trim.proofs.branch.withdraw.Goals as goal

pub remove-key-requires : goal.remove-key-requires
remove-key-requires g c =
    let a = rank-lt c.args.n.now.data c.args.d 32 c.requires.here c.requires.small in
    omega (arith, a, c.requires.whole.0.entries, c.place-i.ensures, c.args.n.now.entries.ok.0)

pub returns-clause-whole : goal.returns-clause-whole
returns-clause-whole g c =
    let a = rank-lt c.args.n.now.data c.args.d 32 c.requires.here c.requires.small in
    let l : c.place-i.result < length c.args.n.now.entries.items = omega (arith, a, c.requires.whole.0.entries, c.place-i.ensures) in
    let b : length (remove c.args.n.now.entries.items c.place-i.result) + 1 ≡ length c.args.n.now.entries.items = length-remove c.args.n.now.entries.items c.place-i.result l in
    rw c.remove-key.ensures.items (
      Fits-withdrawn c.args.n.now.data c.args.n.now.nodes c.without_member-n.result c.args.d _ _ (rw b c.requires.whole.0) c.requires.small c.requires.here c.without_member-n.ensures.same c.without_member-n.ensures.others,
      All-remove (BothSettled g.K.Item.IsSettled g.V.Item.IsSettled) c.args.n.now.entries.items c.place-i.result c.requires.whole.1,
      c.requires.whole.2,
    )

pub returns-clause-was : goal.returns-clause-was
returns-clause-was g c =
    let a = rank-lt c.args.n.now.data c.args.d 32 c.requires.here c.requires.small in
    let l : c.place-i.result < length c.args.n.now.entries.items = omega (arith, a, c.requires.whole.0.entries, c.place-i.ensures) in
    slots_entry _ _ g.C.Level.shape _ _ _ _ _ (eq-eqb _ 1 c.requires.here) _ c.place-i.ensures l _ c.remove-key.ensures.value

pub returns-clause-is : goal.returns-clause-is
returns-clause-is g c =
    let a = rank-lt c.args.n.now.data c.args.d 32 c.requires.here c.requires.small in
    let l : c.place-i.result < length c.args.n.now.entries.items = omega (arith, a, c.requires.whole.0.entries, c.place-i.ensures) in
    let none : bit_at c.args.n.now.nodes c.args.d ≡ 0 = let b = c.requires.whole.0.apart c.args.d in omega (arith, b, c.requires.here) in
    rw c.remove-key.ensures.items (slots_withdrawn_here g.K.Item.plain g.V.Item.plain g.C.Level.shape c.args.n.now.data c.args.n.now.nodes c.args.n.now.entries.items c.args.n.now.children.items c.args.d c.without_member-n.result c.requires.here c.without_member-n.ensures.same c.without_member-n.ensures.others none c.place-i.result c.place-i.ensures l)

pub returns-clause-others : goal.returns-clause-others
returns-clause-others g c =
    let a = rank-lt c.args.n.now.data c.args.d 32 c.requires.here c.requires.small in
    let l : c.place-i.result < length c.args.n.now.entries.items = omega (arith, a, c.requires.whole.0.entries, c.place-i.ensures) in
    let none : bit_at c.args.n.now.nodes c.args.d ≡ 0 = let b = c.requires.whole.0.apart c.args.d in omega (arith, b, c.requires.here) in
    rw c.remove-key.ensures.items (slots_withdrawn_others g.K.Item.plain g.V.Item.plain g.C.Level.shape c.args.n.now.data c.args.n.now.nodes c.args.n.now.entries.items c.args.n.now.children.items c.args.d c.without_member-n.result c.requires.here c.without_member-n.ensures.same c.without_member-n.ensures.others none c.place-i.result c.place-i.ensures l)
