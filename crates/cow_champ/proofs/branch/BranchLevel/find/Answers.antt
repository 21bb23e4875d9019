-- The slot of the key's digit tells what the key has.
use Rattle.std.proofs.Common.{◌≡◌, ℕ, ◌+◌, ◌<◌, ◌≤◌, List, map, length, get_or, Some, None, true, false, cond, eqb, arith, sym, refl, ap, ◌∙◌, subst}
use Rattle.cow_model.specs.Canon.{Tree, Slot, branch, digit, entry, child, free, IsCanonical, AgreeBelow, pairs, get}
use Rattle.cow_model.proofs.CanonSlots.{get_entry, get_free, get_child, child_canonical, child_agrees}
use Rattle.cow_champ.specs.Node.{value_of, pair_of, slots_of, IsWholeChild}
use Rattle.cow_champ.proofs.RowSlots.{slots_entry, slots_child, slots_free}
use Rattle.cow_model.proofs.CanonRows.{entry_place, child_place, All_at}
use Rattle.cow_champ.proofs.branch.BranchLevel.find.Goals as goal
use Rattle.cow_champ.proofs.branch.BranchLevel.find.Given.{Over}

module _ (g : Over) (c : goal.After-place g) where
  within_e : c.place.result < length c.args.self.now.entries.items
  within_e = rw c.place.ensures (entry_place _ c.args.self.now.nodes _ _ _ c.requires.whole.0 c.digit_of-d.ensures.small (sym c.has.ensures ∙ c.if-has.true))

module _ (g : Over) (c : goal.After-place-then-has-2 g) where
  within : c.place-then-has-2.result < length c.args.self.now.children.items
  within = rw c.place-then-has-2.ensures (child_place c.args.self.now.data _ _ _ _ c.requires.whole.0 c.digit_of-d.ensures.small (sym c.has-else-has.ensures ∙ c.if-has-2.true))

module _ (g : Over) (c : goal.After-get g) where
  within' : c.place-then-has-2.result < length c.args.self.now.children.items
  within' = rw c.place-then-has-2.ensures (child_place c.args.self.now.data _ _ _ _ c.requires.whole.0 c.digit_of-d.ensures.small (sym c.has-else-has.ensures ∙ c.if-has-2.true))

  here : slots_of g.K.Item.plain g.V.Item.plain g.C.Level.shape c.args.self.now.data c.args.self.now.nodes c.args.self.now.entries.items c.args.self.now.children.items c.digit_of-d.result ≡ child (g.C.Level.shape c.get.result.now)
  here = rw c.get.ensures (slots_child _ _ g.C.Level.shape _ _ _ _ _ (sym c.has.ensures ∙ c.if-has.false) (sym c.has-else-has.ensures ∙ c.if-has-2.true) _ c.place-then-has-2.ensures within' c.index.result.now c.index.ensures)

pub index-e-requires : goal.index-e-requires
index-e-requires g c = let a = within_e g c in omega (arith, a, c.args.self.now.entries.ok.0)

pub index-requires : goal.index-requires
index-requires g c = let a = within g c in omega (arith, a, c.args.self.now.children.ok.0)

pub find-requires-clause-whole : goal.find-requires-clause-whole
find-requires-clause-whole g c =
    rw c.get.ensures (All_at (IsWholeChild g.C.Level.IsWhole) c.args.self.now.children.items c.requires.whole.2 c.place-then-has-2.result (within' g c) c.index.result.now c.index.ensures).1

pub find-requires-clause-agree : goal.find-requires-clause-agree
find-requires-clause-agree g c =
    child_agrees g.K.Key.hash_of _ _ _ c.requires.stacked.1 (g.met.C.Level.at_most c.requires.stacked.0) c.requires.canonical c.args.hash c.requires.agree _ (rw (← c.digit_of-d.ensures.digit) (here g c))

pub find-requires-clause-canonical : goal.find-requires-clause-canonical
find-requires-clause-canonical g c =
    child_canonical g.K.Key.hash_of _ _ _ c.requires.stacked.1 (g.met.C.Level.at_most c.requires.stacked.0) c.requires.canonical c.digit_of-d.result c.digit_of-d.ensures.small _ (here g c)

pub returns-then-is_sought : goal.returns-then-is_sought
returns-then-is_sought g c =
    let within_e : c.place.result < length c.args.self.now.entries.items = rw c.place.ensures (entry_place _ c.args.self.now.nodes _ _ _ c.requires.whole.0 c.digit_of-d.ensures.small (sym c.has.ensures ∙ c.if-has.true)) in
    let e = sym c.is_sought.ensures ∙ c.if-is_sought.true in
    sym (get_entry g.K.Key.hash_of _ _ _ c.requires.stacked.1 (g.met.C.Level.at_most c.requires.stacked.0) c.requires.canonical _ c.digit_of-d.result
    (c.digit_of-d.ensures.digit ∙ ap (λ x. digit x g.row.AT) c.requires.hash) _
    (slots_entry _ _ g.C.Level.shape _ _ _ _ _ (sym c.has.ensures ∙ c.if-has.true) _ c.place.ensures within_e _ c.index-e.ensures)
    ∙ rw e refl)

pub returns-else-is_sought : goal.returns-else-is_sought
returns-else-is_sought g c =
    let within_e : c.place.result < length c.args.self.now.entries.items = rw c.place.ensures (entry_place _ c.args.self.now.nodes _ _ _ c.requires.whole.0 c.digit_of-d.ensures.small (sym c.has.ensures ∙ c.if-has.true)) in
    let e = sym c.is_sought.ensures ∙ c.if-is_sought.false in
    sym (get_entry g.K.Key.hash_of _ _ _ c.requires.stacked.1 (g.met.C.Level.at_most c.requires.stacked.0) c.requires.canonical _ c.digit_of-d.result
    (c.digit_of-d.ensures.digit ∙ ap (λ x. digit x g.row.AT) c.requires.hash) _
    (slots_entry _ _ g.C.Level.shape _ _ _ _ _ (sym c.has.ensures ∙ c.if-has.true) _ c.place.ensures within_e _ c.index-e.ensures)
    ∙ rw e refl)

pub returns-then-has-2 : goal.returns-then-has-2
returns-then-has-2 g c =
    let within : c.place-then-has-2.result < length c.args.self.now.children.items = rw c.place-then-has-2.ensures (child_place c.args.self.now.data _ _ _ _ c.requires.whole.0 c.digit_of-d.ensures.small (sym c.has-else-has.ensures ∙ c.if-has-2.true)) in
    c.find.ensures ∙ sym (get_child g.K.Key.hash_of _ _ _ c.requires.stacked.1 (g.met.C.Level.at_most c.requires.stacked.0) c.requires.canonical _ c.digit_of-d.result
    (c.digit_of-d.ensures.digit ∙ ap (λ x. digit x g.row.AT) c.requires.hash) _
    (rw c.get.ensures (slots_child _ _ g.C.Level.shape _ _ _ _ _ (sym c.has.ensures ∙ c.if-has.false) (sym c.has-else-has.ensures ∙ c.if-has-2.true) _ c.place-then-has-2.ensures within c.index.result.now c.index.ensures)))

pub returns-else-has-2 : goal.returns-else-has-2
returns-else-has-2 g c =
    sym (get_free g.K.Key.hash_of _ _ _ c.requires.stacked.1 (g.met.C.Level.at_most c.requires.stacked.0) c.requires.canonical _ c.digit_of-d.result (c.digit_of-d.ensures.digit ∙ ap (λ x. digit x g.row.AT) c.requires.hash)
    (slots_free _ _ g.C.Level.shape _ _ _ _ _ (sym c.has.ensures ∙ c.if-has.false) (sym c.has-else-has.ensures ∙ c.if-has-2.false)))
