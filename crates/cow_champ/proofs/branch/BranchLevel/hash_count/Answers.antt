-- The slot of the hash's digit has all pairs of that hash.
use Rattle.std.proofs.Common.{◌≡◌, ◌≢◌, ◌∙◌, ℕ, ◌+◌, ◌<◌, ◌≤◌, Bool, true, false, cond, eqb, List, map, length, get_or, arith, sym, refl, ap, subst, eqb-true, eq-eqb, ne_eqb}
use Rattle.cow_model.specs.declared.plain.Literal.{Literal}
use Rattle.cow_model.specs.declared.value.Pair.{Pair}
use Rattle.cow_model.specs.Canon.{count_where, Tree, Slot, branch, digit, entry, child, free, IsCanonical, pairs, slot_pairs}
use Rattle.cow_model.proofs.CanonSlots.{child_canonical}
use Rattle.cow_model.proofs.CanonTwins.{count_at, count_entry, count_child, count_free}
use Rattle.cow_champ.specs.Node.{pair_of, slots_of, IsWholeChild}
use Rattle.cow_champ.proofs.RowSlots.{slots_entry, slots_child, slots_free}
use Rattle.cow_model.proofs.CanonRows.{entry_place, child_place, All_at}
use Rattle.cow_champ.proofs.branch.BranchLevel.hash_count.Goals as goal
use Rattle.cow_champ.proofs.branch.BranchLevel.hash_count.Given.{Over}

count_slot : (hash_of : Literal → ℕ) (at : ℕ → Slot) (level next : ℕ) → next ≡ level + 1 → next ≤ 7 → IsCanonical hash_of (branch at) level → (hash d : ℕ) → d < 32 → d ≡ digit hash level → (s : Slot) → at d ≡ s → count_where (λ p. eqb (hash_of p.key) hash) (pairs (branch at)) ≡ count_where (λ p. eqb (hash_of p.key) hash) (slot_pairs s)
count_slot hash_of at level next e h c hash d k f s q =
    count_at hash_of at level next e h c (λ p. eqb (hash_of p.key) hash) d k (λ p r. ap (λ x. digit x level) (eqb-true (hash_of p.key) hash r) ∙ sym f)
    ∙ ap (λ s. count_where (λ p. eqb (hash_of p.key) hash) (slot_pairs s)) q

module _ (g : Over) (c : goal.After-get g) where
  within' : c.place-then-has-2.result < length c.args.self.now.children.items
  within' = rw c.place-then-has-2.ensures (child_place c.args.self.now.data _ _ _ _ c.requires.whole.0 c.digit_of-d.ensures.small (sym c.has-else-has.ensures ∙ c.if-has-2.true))

  here : slots_of g.K.Item.plain g.V.Item.plain g.C.Level.shape c.args.self.now.data c.args.self.now.nodes c.args.self.now.entries.items c.args.self.now.children.items c.digit_of-d.result ≡ child (g.C.Level.shape c.get.result.now)
  here = rw c.get.ensures (slots_child _ _ g.C.Level.shape _ _ _ _ _ (sym c.has.ensures ∙ c.if-has.false) (sym c.has-else-has.ensures ∙ c.if-has-2.true) _ c.place-then-has-2.ensures within' c.index-then-has-2.result.now c.index-then-has-2.ensures)

pub index-requires : goal.index-requires
index-requires g c =
    let a : c.place.result < length c.args.self.now.entries.items = rw c.place.ensures (entry_place _ c.args.self.now.nodes _ _ _ c.requires.whole.0 c.digit_of-d.ensures.small (sym c.has.ensures ∙ c.if-has.true)) in
    omega (arith, a, c.args.self.now.entries.ok.0)

pub index-requires-then-has-2 : goal.index-requires-then-has-2
index-requires-then-has-2 g c =
    let a : c.place-then-has-2.result < length c.args.self.now.children.items = rw c.place-then-has-2.ensures (child_place c.args.self.now.data _ _ _ _ c.requires.whole.0 c.digit_of-d.ensures.small (sym c.has-else-has.ensures ∙ c.if-has-2.true)) in
    omega (arith, a, c.args.self.now.children.ok.0)

pub hash_count-requires-clause-whole : goal.hash_count-requires-clause-whole
hash_count-requires-clause-whole g c =
    rw c.get.ensures (All_at (IsWholeChild g.C.Level.IsWhole) c.args.self.now.children.items c.requires.whole.2 c.place-then-has-2.result (within' g c) c.index-then-has-2.result.now c.index-then-has-2.ensures).1

pub hash_count-requires-clause-canonical : goal.hash_count-requires-clause-canonical
hash_count-requires-clause-canonical g c =
    child_canonical g.K.Key.hash_of _ _ _ c.requires.stacked.1 (g.met.C.Level.at_most c.requires.stacked.0) c.requires.canonical c.digit_of-d.result c.digit_of-d.ensures.small _ (here g c)

pub returns-then-hash : goal.returns-then-hash
returns-then-hash g c =
    let within_e : c.place.result < length c.args.self.now.entries.items = rw c.place.ensures (entry_place _ c.args.self.now.nodes _ _ _ c.requires.whole.0 c.digit_of-d.ensures.small (sym c.has.ensures ∙ c.if-has.true)) in
    let t : eqb (g.K.Key.hash_of (g.K.Item.plain c.index.result.now.key)) c.args.hash ≡ true = eq-eqb _ _ (sym c.hash.ensures ∙ c.if-hash.true) in
    sym (count_slot g.K.Key.hash_of _ _ _ c.requires.stacked.1 (g.met.C.Level.at_most c.requires.stacked.0) c.requires.canonical c.args.hash c.digit_of-d.result c.digit_of-d.ensures.small c.digit_of-d.ensures.digit _
    (slots_entry _ _ g.C.Level.shape _ _ _ _ _ (sym c.has.ensures ∙ c.if-has.true) _ c.place.ensures within_e _ c.index.ensures)
    ∙ count_entry (λ p. eqb (g.K.Key.hash_of p.key) c.args.hash) (pair_of g.K.Item.plain g.V.Item.plain c.index.result.now)
    ∙ rw t refl)

pub returns-else-hash : goal.returns-else-hash
returns-else-hash g c =
    let within_e : c.place.result < length c.args.self.now.entries.items = rw c.place.ensures (entry_place _ c.args.self.now.nodes _ _ _ c.requires.whole.0 c.digit_of-d.ensures.small (sym c.has.ensures ∙ c.if-has.true)) in
    let t : eqb (g.K.Key.hash_of (g.K.Item.plain c.index.result.now.key)) c.args.hash ≡ false = ne_eqb _ _ (λ x. c.if-hash.false (c.hash.ensures ∙ x)) in
    sym (count_slot g.K.Key.hash_of _ _ _ c.requires.stacked.1 (g.met.C.Level.at_most c.requires.stacked.0) c.requires.canonical c.args.hash c.digit_of-d.result c.digit_of-d.ensures.small c.digit_of-d.ensures.digit _
    (slots_entry _ _ g.C.Level.shape _ _ _ _ _ (sym c.has.ensures ∙ c.if-has.true) _ c.place.ensures within_e _ c.index.ensures)
    ∙ count_entry (λ p. eqb (g.K.Key.hash_of p.key) c.args.hash) (pair_of g.K.Item.plain g.V.Item.plain c.index.result.now)
    ∙ rw t refl)

pub returns-then-has-2 : goal.returns-then-has-2
returns-then-has-2 g c =
    let within : c.place-then-has-2.result < length c.args.self.now.children.items = rw c.place-then-has-2.ensures (child_place c.args.self.now.data _ _ _ _ c.requires.whole.0 c.digit_of-d.ensures.small (sym c.has-else-has.ensures ∙ c.if-has-2.true)) in
    c.hash_count.ensures ∙ sym (count_slot g.K.Key.hash_of _ _ _ c.requires.stacked.1 (g.met.C.Level.at_most c.requires.stacked.0) c.requires.canonical c.args.hash c.digit_of-d.result c.digit_of-d.ensures.small c.digit_of-d.ensures.digit _
    (rw c.get.ensures (slots_child _ _ g.C.Level.shape _ _ _ _ _ (sym c.has.ensures ∙ c.if-has.false) (sym c.has-else-has.ensures ∙ c.if-has-2.true) _ c.place-then-has-2.ensures within c.index-then-has-2.result.now c.index-then-has-2.ensures))
    ∙ count_child (λ p. eqb (g.K.Key.hash_of p.key) c.args.hash) (g.C.Level.shape c.get.result.now))

pub returns-else-has-2 : goal.returns-else-has-2
returns-else-has-2 g c =
    sym (count_slot g.K.Key.hash_of _ _ _ c.requires.stacked.1 (g.met.C.Level.at_most c.requires.stacked.0) c.requires.canonical c.args.hash c.digit_of-d.result c.digit_of-d.ensures.small c.digit_of-d.ensures.digit _
    (slots_free _ _ g.C.Level.shape _ _ _ _ _ (sym c.has.ensures ∙ c.if-has.false) (sym c.has-else-has.ensures ∙ c.if-has-2.false))
    ∙ count_free (λ p. eqb (g.K.Key.hash_of p.key) c.args.hash))
