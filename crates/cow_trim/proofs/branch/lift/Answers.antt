-- The child leaves its row, and its digit the map; then an entry is added.
use Rattle.std.proofs.Common.{◌≡◌, ◌∙◌, ◌+◌, ◌<◌, lit<, length, arith}
use Rattle.std.specs.List.{remove}
use Rattle.std.specs.Int.{bit_at}
use Rattle.std.proofs.lemmas.List.Edits.{length-remove}
use Rattle.cow_model.proofs.CanonRanks.{rank-lt}
use Rattle.cow_champ.specs.Node.{IsWholeChild}
use Rattle.cow_champ.proofs.Changes.{All-remove}
use Rattle.cow_trim.proofs.Withdrawn.{Fits-parted, slots_parted_others}
use Rattle.cow_trim.proofs.branch.lift.Goals as goal

pub remove-child-requires : goal.remove-child-requires
remove-child-requires g c =
    let a = rank-lt c.args.n.now.nodes c.args.d 32 c.requires.here c.requires.small in
    omega (arith, a, c.requires.whole.0.children, c.place-j.ensures, c.args.n.now.children.ok.0)

pub add-requires : goal.add-requires
add-requires g c =
    let a = rank-lt c.args.n.now.nodes c.args.d 32 c.requires.here c.requires.small in
    let l : c.place-j.result < length c.args.n.now.children.items = omega (arith, a, c.requires.whole.0.children, c.place-j.ensures) in
    let b : length (remove c.args.n.now.children.items c.place-j.result) + 1 ≡ length c.args.n.now.children.items = length-remove c.args.n.now.children.items c.place-j.result l in
    let none : bit_at c.args.n.now.data c.args.d ≡ 0 = let e = c.requires.whole.0.apart c.args.d in omega (arith, e, c.requires.here) in (
      lit< tt,
      (
        rw c.remove-child.ensures.items (
          Fits-parted c.args.n.now.data c.args.n.now.nodes c.without_member-n.result c.args.d _ _ (rw b c.requires.whole.0) c.requires.small c.requires.here c.without_member-n.ensures.same c.without_member-n.ensures.others,
          c.requires.whole.1,
          All-remove (IsWholeChild g.C.Level.IsWhole) c.args.n.now.children.items c.place-j.result c.requires.whole.2,
        ),
        (c.requires.small, (none, (c.without_member-n.ensures.same, c.requires.room))),
      ),
    )

pub returns-clause-others : goal.returns-clause-others
returns-clause-others g c = λ x ne.
    let a = rank-lt c.args.n.now.nodes c.args.d 32 c.requires.here c.requires.small in
    let l : c.place-j.result < length c.args.n.now.children.items = omega (arith, a, c.requires.whole.0.children, c.place-j.ensures) in
    let none : bit_at c.args.n.now.data c.args.d ≡ 0 = let e = c.requires.whole.0.apart c.args.d in omega (arith, e, c.requires.here) in
    c.add.ensures.others x ne ∙ rw c.remove-child.ensures.items (slots_parted_others g.K.Item.plain g.V.Item.plain g.C.Level.shape c.args.n.now.data c.args.n.now.nodes c.args.n.now.entries.items c.args.n.now.children.items c.args.d c.without_member-n.result none c.requires.here c.without_member-n.ensures.same c.without_member-n.ensures.others c.place-j.result c.place-j.ensures l x ne)
