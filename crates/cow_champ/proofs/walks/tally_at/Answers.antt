-- The count of what stands at a digit.
use Rattle.std.proofs.Common.{◌≡◌, ◌∙◌, ℕ, ◌+◌, ◌-◌, ◌^◌, ◌<◌, ◌≤◌, List, [], ◌∷◌, map, length, get_or, Bool, true, false, cond, min, eqb, arith, sym, refl, ap, subst, rules}
use Rattle.cow_model.specs.Canon.{Slot, count_where, entry, child, free, slot_pairs, pairs}
use Rattle.cow_model.specs.declared.value.Pair.{Pair}
use Rattle.cow_model.proofs.CanonRows.{entry_place, child_place, All_at}
use Rattle.cow_model.proofs.CanonTwins.{count_entry, count_child, count_free}
use Rattle.cow_champ.specs.Node.{pair_of, slots_of, value_of, IsWholeChild}
use Rattle.cow_champ.proofs.RowSlots.{slots_entry, slots_child, slots_free}
use Rattle.cow_champ.proofs.walks.tally_at.Goals as goal
use Rattle.cow_champ.proofs.walks.tally_at.Given.{Over}

-- an entry counts once where it passes
one : (t : Pair → Bool) (p : Pair) (s : Slot) (b : Bool) → s ≡ entry p → b ≡ t p → cond b 1 0 ≡ min (count_where t (slot_pairs s)) (2 ^ 64 - 1)
one t p s b e h =
    let n : count_where t (slot_pairs s) ≡ cond b 1 0 = ap (λ x. count_where t (slot_pairs x)) e ∙ count_entry t p ∙ ap (λ c. cond c 1 0) (sym h) in
    rw n (small b)
  where
    small : (b : Bool) → cond b 1 0 ≡ min (cond b 1 0) (2 ^ 64 - 1)
    small true = omega arith
    small false = omega arith

pub index-e-requires : goal.index-e-requires
index-e-requires g c =
    let a = entry_place _ c.args.n.now.nodes _ _ _ c.requires.whole.0 c.requires.small (sym c.has.ensures ∙ c.if-has.true) in
    omega (arith, a, c.place.ensures, c.args.n.now.entries.ok.0)

pub index-requires : goal.index-requires
index-requires g c =
    let a = child_place c.args.n.now.data _ _ _ _ c.requires.whole.0 c.requires.small (sym c.has-else-has.ensures ∙ c.if-has-2.true) in
    omega (arith, a, c.place-then-has-2.ensures, c.args.n.now.children.ok.0)

pub tally-requires-clause-whole : goal.tally-requires-clause-whole
tally-requires-clause-whole g c =
    let within : c.place-then-has-2.result < length c.args.n.now.children.items = rw c.place-then-has-2.ensures (child_place c.args.n.now.data _ _ _ _ c.requires.whole.0 c.requires.small (sym c.has-else-has.ensures ∙ c.if-has-2.true)) in
    rw c.get.ensures (All_at (IsWholeChild g.C.Level.IsWhole) c.args.n.now.children.items c.requires.whole.2 c.place-then-has-2.result within c.index.result.now c.index.ensures).1

pub returns-then-test : goal.returns-then-test
returns-then-test g c = λ p h.
    let within : c.place.result < length c.args.n.now.entries.items = rw c.place.ensures (entry_place _ c.args.n.now.nodes _ _ _ c.requires.whole.0 c.requires.small (sym c.has.ensures ∙ c.if-has.true)) in
    let here = slots_entry g.K.Item.plain g.V.Item.plain g.C.Level.shape c.args.n.now.data c.args.n.now.nodes c.args.n.now.entries.items c.args.n.now.children.items c.args.d (sym c.has.ensures ∙ c.if-has.true) _ c.place.ensures within _ c.index-e.ensures in
    let passed : c.test.result ≡ true = search rules in
    one (λ q. p q.key q.value) (pair_of g.K.Item.plain g.V.Item.plain c.index-e.result.now) _ true here (sym passed ∙ h _ _ _ c.test.ensures)

pub returns-else-test : goal.returns-else-test
returns-else-test g c = λ p h.
    let within : c.place.result < length c.args.n.now.entries.items = rw c.place.ensures (entry_place _ c.args.n.now.nodes _ _ _ c.requires.whole.0 c.requires.small (sym c.has.ensures ∙ c.if-has.true)) in
    let here = slots_entry g.K.Item.plain g.V.Item.plain g.C.Level.shape c.args.n.now.data c.args.n.now.nodes c.args.n.now.entries.items c.args.n.now.children.items c.args.d (sym c.has.ensures ∙ c.if-has.true) _ c.place.ensures within _ c.index-e.ensures in
    let failed : c.test.result ≡ false = search rules in
    one (λ q. p q.key q.value) (pair_of g.K.Item.plain g.V.Item.plain c.index-e.result.now) _ false here (sym failed ∙ h _ _ _ c.test.ensures)

pub returns-then-has-2 : goal.returns-then-has-2
returns-then-has-2 g c = λ p h.
    let within : c.place-then-has-2.result < length c.args.n.now.children.items = rw c.place-then-has-2.ensures (child_place c.args.n.now.data _ _ _ _ c.requires.whole.0 c.requires.small (sym c.has-else-has.ensures ∙ c.if-has-2.true)) in
    let here = slots_child g.K.Item.plain g.V.Item.plain g.C.Level.shape c.args.n.now.data c.args.n.now.nodes c.args.n.now.entries.items c.args.n.now.children.items c.args.d (sym c.has.ensures ∙ c.if-has.false) (sym c.has-else-has.ensures ∙ c.if-has-2.true) _ c.place-then-has-2.ensures within c.index.result.now c.index.ensures in
    let at : g.C.Level.shape c.get.result.now ≡ g.C.Level.shape (value_of c.index.result.now) = ap g.C.Level.shape c.get.ensures in
    let t : Pair → Bool = λ q. p q.key q.value in
    c.tally.ensures p h ∙ ap (λ n. min n (2 ^ 64 - 1)) (ap (λ s. count_where t (pairs s)) at ∙ sym (count_child t (g.C.Level.shape (value_of c.index.result.now))) ∙ sym (ap (λ s. count_where t (slot_pairs s)) here))

pub returns-else-has-2 : goal.returns-else-has-2
returns-else-has-2 g c = λ p h.
    let here = slots_free g.K.Item.plain g.V.Item.plain g.C.Level.shape c.args.n.now.data c.args.n.now.nodes c.args.n.now.entries.items c.args.n.now.children.items c.args.d (sym c.has.ensures ∙ c.if-has.false) (sym c.has-else-has.ensures ∙ c.if-has-2.false) in
    let t : Pair → Bool = λ q. p q.key q.value in
    let none : count_where t (slot_pairs (slots_of g.K.Item.plain g.V.Item.plain g.C.Level.shape c.args.n.now.data c.args.n.now.nodes c.args.n.now.entries.items c.args.n.now.children.items c.args.d)) ≡ 0 = ap (λ s. count_where t (slot_pairs s)) here ∙ count_free t in
    omega (arith, none)
