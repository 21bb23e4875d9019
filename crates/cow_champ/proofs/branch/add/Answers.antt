-- One entry more.
use Rattle.std.proofs.Common.{◌≡◌, ◌≢◌, ◌∙◌, ℕ, ◌+◌, ◌<◌, ◌≤◌, List, map, length, arith, sym, ap, refl, subst, All}
use Rattle.std.specs.List.{insert}
use Rattle.std.proofs.lemmas.List.Edits.{length-insert}
use Rattle.cow_model.specs.Canon.{entry}
use Rattle.cow_champ.specs.Node.{BothSettled}
use Rattle.cow_model.proofs.CanonRanks.{rank-le}
use Rattle.cow_champ.proofs.Adds.{slots_new_here, slots_new_others}
use Rattle.cow_champ.proofs.Changes.{pushed, Fits-add, All-insert}
use Rattle.cow_champ.proofs.branch.add.Goals as goal

pub insert-requires : goal.insert-requires
insert-requires g c =
    let a = rank-le c.args.n.now.data c.args.d 32 (let l = c.requires.small in omega (arith, l)) in
    omega (arith, a, c.requires.whole.0.entries, c.place-i.ensures, c.args.n.now.entries.ok.0)

pub returns-clause-whole : goal.returns-clause-whole
returns-clause-whole g c =
    let a = rank-le c.args.n.now.data c.args.d 32 (let l = c.requires.small in omega (arith, l)) in
    let l : c.place-i.result ≤ length c.args.n.now.entries.items = omega (arith, a, c.requires.whole.0.entries, c.place-i.ensures) in
    let items : c.insert.new.self.items ≡ insert c.args.n.now.entries.items c.place-i.result c.settled-entry.result = pushed _ _ _ _ (sym c.is_err.ensures.value ∙ c.if-is_err.false) c.insert.ensures.items in
    rw items (
      rw (length-insert c.args.n.now.entries.items c.place-i.result c.settled-entry.result l)
          (Fits-add c.args.n.now.data c.args.n.now.nodes c.with_member-n.result c.args.d _ _ c.requires.whole.0 c.requires.small c.with_member-n.ensures.same c.with_member-n.ensures.others c.requires.no_entry c.requires.no_child),
      All-insert (BothSettled g.K.Item.IsSettled g.V.Item.IsSettled) c.args.n.now.entries.items c.place-i.result c.settled-entry.result c.requires.whole.1 c.settled-entry.ensures.settled,
      c.requires.whole.2,
    )

pub returns-clause-here : goal.returns-clause-here
returns-clause-here g c =
    let a = rank-le c.args.n.now.data c.args.d 32 (let l = c.requires.small in omega (arith, l)) in
    let l : c.place-i.result ≤ length c.args.n.now.entries.items = omega (arith, a, c.requires.whole.0.entries, c.place-i.ensures) in
    let items : c.insert.new.self.items ≡ insert c.args.n.now.entries.items c.place-i.result c.settled-entry.result = pushed _ _ _ _ (sym c.is_err.ensures.value ∙ c.if-is_err.false) c.insert.ensures.items in
    rw items (slots_new_here g.K.Item.plain g.V.Item.plain g.C.Level.shape c.args.n.now.data c.args.n.now.nodes c.args.n.now.entries.items c.args.n.now.children.items c.args.d c.place-i.result c.with_member-n.result c.with_member-n.ensures.same c.with_member-n.ensures.others c.requires.no_entry c.place-i.ensures l c.settled-entry.result
    ∙ ap entry c.settled-entry.ensures.pair)

pub returns-clause-others : goal.returns-clause-others
returns-clause-others g c =
    let a = rank-le c.args.n.now.data c.args.d 32 (let l = c.requires.small in omega (arith, l)) in
    let l : c.place-i.result ≤ length c.args.n.now.entries.items = omega (arith, a, c.requires.whole.0.entries, c.place-i.ensures) in
    let items : c.insert.new.self.items ≡ insert c.args.n.now.entries.items c.place-i.result c.settled-entry.result = pushed _ _ _ _ (sym c.is_err.ensures.value ∙ c.if-is_err.false) c.insert.ensures.items in
    rw items (slots_new_others g.K.Item.plain g.V.Item.plain g.C.Level.shape c.args.n.now.data c.args.n.now.nodes c.args.n.now.entries.items c.args.n.now.children.items c.args.d c.place-i.result c.with_member-n.result c.with_member-n.ensures.same c.with_member-n.ensures.others c.requires.no_entry c.place-i.ensures l c.settled-entry.result)
