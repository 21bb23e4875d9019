-- What stands at a digit, behind what was there.
use Rattle.std.proofs.Common.{◌≡◌, ◌∙◌, ℕ, ◌+◌, ◌<◌, ◌≤◌, List, [], ◌∷◌, ◌++◌, map, length, get_or, true, false, eqb, arith, sym, refl, ap, subst}
use Rattle.cow_model.specs.Canon.{Slot, entry, child, free, slot_pairs, pairs}
use Rattle.cow_model.proofs.CanonSlots.{slot_pairs-entry, slot_pairs-child, slot_pairs-free}
use Rattle.cow_model.proofs.CanonRows.{entry_place, child_place, All_at}
use Rattle.cow_champ.specs.Node.{pair_of, seen_pair, SeenSettled, BothSettled, slots_of, value_of, IsWholeChild}
use Rattle.cow_champ.proofs.Appending.{appends_none, appends_one, appends_is}
use Rattle.cow_champ.proofs.Changes.{pushed}
use Rattle.cow_champ.proofs.Outcomes.{OnOk_map}
use Rattle.cow_champ.proofs.RowSlots.{slots_entry, slots_child, slots_free}
use Rattle.cow_champ.proofs.walks.walk_at.Goals as goal
use Rattle.cow_champ.proofs.walks.walk_at.Given.{Over}

pub index-e-requires : goal.index-e-requires
index-e-requires g c =
    let a = entry_place _ c.args.n.now.nodes _ _ _ c.requires.whole.0 c.requires.small (sym c.has.ensures ∙ c.if-has.true) in
    omega (arith, a, c.place.ensures, c.args.n.now.entries.ok.0)

pub index-requires : goal.index-requires
index-requires g c =
    let a = child_place c.args.n.now.data _ _ _ _ c.requires.whole.0 c.requires.small (sym c.has-else-has.ensures ∙ c.if-has-2.true) in
    omega (arith, a, c.place-then-has-2.ensures, c.args.n.now.children.ok.0)

pub walk-requires-clause-whole : goal.walk-requires-clause-whole
walk-requires-clause-whole g c =
    let within : c.place-then-has-2.result < length c.args.n.now.children.items = rw c.place-then-has-2.ensures (child_place c.args.n.now.data _ _ _ _ c.requires.whole.0 c.requires.small (sym c.has-else-has.ensures ∙ c.if-has-2.true)) in
    rw c.get.ensures (All_at (IsWholeChild g.C.Level.IsWhole) c.args.n.now.children.items c.requires.whole.2 c.place-then-has-2.result within c.index.result.now c.index.ensures).1

pub returns-else-is_err-clause-ok : goal.returns-else-is_err-clause-ok
returns-else-is_err-clause-ok g c =
    let within : c.place.result < length c.args.n.now.entries.items = rw c.place.ensures (entry_place _ c.args.n.now.nodes _ _ _ c.requires.whole.0 c.requires.small (sym c.has.ensures ∙ c.if-has.true)) in
    let p = pair_of g.K.Item.plain g.V.Item.plain c.index-e.result.now in
    let here = slots_entry g.K.Item.plain g.V.Item.plain g.C.Level.shape c.args.n.now.data c.args.n.now.nodes c.args.n.now.entries.items c.args.n.now.children.items c.args.d (sym c.has.ensures ∙ c.if-has.true) _ c.place.ensures within _ c.index-e.ensures in
    appends_is _ (SeenSettled g.K.Item.IsSettled g.V.Item.IsSettled) (p ∷ []) _ _ _ (sym (ap slot_pairs here ∙ slot_pairs-entry p))
    (appends_one (seen_pair g.K.Item.plain g.V.Item.plain) (SeenSettled g.K.Item.IsSettled g.V.Item.IsSettled) _ _ _ p (pushed _ _ _ _ (sym c.is_err.ensures.value ∙ c.if-is_err.false) c.push.ensures.items) refl
    (All_at (BothSettled g.K.Item.IsSettled g.V.Item.IsSettled) c.args.n.now.entries.items c.requires.whole.1 c.place.result within c.index-e.result.now c.index-e.ensures))

pub returns-then-has-2-clause-ok : goal.returns-then-has-2-clause-ok
returns-then-has-2-clause-ok g c =
    let within : c.place-then-has-2.result < length c.args.n.now.children.items = rw c.place-then-has-2.ensures (child_place c.args.n.now.data _ _ _ _ c.requires.whole.0 c.requires.small (sym c.has-else-has.ensures ∙ c.if-has-2.true)) in
    let here = slots_child g.K.Item.plain g.V.Item.plain g.C.Level.shape c.args.n.now.data c.args.n.now.nodes c.args.n.now.entries.items c.args.n.now.children.items c.args.d (sym c.has.ensures ∙ c.if-has.false) (sym c.has-else-has.ensures ∙ c.if-has-2.true) _ c.place-then-has-2.ensures within c.index.result.now c.index.ensures in
    let at : g.C.Level.shape c.get.result.now ≡ g.C.Level.shape (value_of c.index.result.now) = ap g.C.Level.shape c.get.ensures in
    OnOk_map _ (appends_is (seen_pair g.K.Item.plain g.V.Item.plain) (SeenSettled g.K.Item.IsSettled g.V.Item.IsSettled) _ _ _ _ (ap pairs at ∙ sym (ap slot_pairs here ∙ slot_pairs-child (g.C.Level.shape (value_of c.index.result.now))))) c.walk.ensures.ok

pub returns-else-has-2-clause-ok : goal.returns-else-has-2-clause-ok
returns-else-has-2-clause-ok g c =
    let here = slots_free g.K.Item.plain g.V.Item.plain g.C.Level.shape c.args.n.now.data c.args.n.now.nodes c.args.n.now.entries.items c.args.n.now.children.items c.args.d (sym c.has.ensures ∙ c.if-has.false) (sym c.has-else-has.ensures ∙ c.if-has-2.false) in
    appends_is (seen_pair g.K.Item.plain g.V.Item.plain) (SeenSettled g.K.Item.IsSettled g.V.Item.IsSettled) [] _ _ _ (sym (ap slot_pairs here ∙ slot_pairs-free)) (appends_none _ _ _)
