-- The test of what stands at a digit.
use Rattle.std.proofs.Common.{◌≡◌, ◌∙◌, ℕ, ◌+◌, ◌<◌, ◌≤◌, List, [], ◌∷◌, map, length, get_or, Bool, true, false, ◌&&◌, eqb, arith, sym, refl, ap, subst}
use Rattle.std.specs.List.{list_all}
use Rattle.cow_model.specs.Canon.{Slot, entry, child, free, slot_pairs, pairs}
use Rattle.cow_model.specs.declared.value.Pair.{Pair}
use Rattle.cow_model.proofs.CanonSlots.{slot_pairs-entry, slot_pairs-child, slot_pairs-free}
use Rattle.cow_model.proofs.CanonRows.{entry_place, child_place, All_at}
use Rattle.cow_champ.specs.Node.{pair_of, slots_of, value_of, IsWholeChild}
use Rattle.cow_champ.proofs.RowSlots.{slots_entry, slots_child, slots_free}
use Rattle.cow_champ.proofs.walks.all_at.Goals as goal
use Rattle.cow_champ.proofs.walks.all_at.Given.{Over}

all_one : (t : Pair → Bool) (p : Pair) (s : Slot) → s ≡ entry p → list_all t (slot_pairs s) ≡ t p
all_one t p s e = ap (λ x. list_all t (slot_pairs x)) e ∙ ap (list_all t) (slot_pairs-entry p) ∙ (elim (t p) as (λ b. (b && true) ≡ b) [ true ↦ refl | false ↦ refl ])

pub index-e-requires : goal.index-e-requires
index-e-requires g c =
    let a = entry_place _ c.args.n.now.nodes _ _ _ c.requires.whole.0 c.requires.small (sym c.has.ensures ∙ c.if-has.true) in
    omega (arith, a, c.place.ensures, c.args.n.now.entries.ok.0)

pub index-requires : goal.index-requires
index-requires g c =
    let a = child_place c.args.n.now.data _ _ _ _ c.requires.whole.0 c.requires.small (sym c.has-else-has.ensures ∙ c.if-has-2.true) in
    omega (arith, a, c.place-then-has-2.ensures, c.args.n.now.children.ok.0)

pub all-requires-clause-whole : goal.all-requires-clause-whole
all-requires-clause-whole g c =
    let within : c.place-then-has-2.result < length c.args.n.now.children.items = rw c.place-then-has-2.ensures (child_place c.args.n.now.data _ _ _ _ c.requires.whole.0 c.requires.small (sym c.has-else-has.ensures ∙ c.if-has-2.true)) in
    rw c.get.ensures (All_at (IsWholeChild g.C.Level.IsWhole) c.args.n.now.children.items c.requires.whole.2 c.place-then-has-2.result within c.index.result.now c.index.ensures).1

pub returns-then-has : goal.returns-then-has
returns-then-has g c = λ p h.
    let within : c.place.result < length c.args.n.now.entries.items = rw c.place.ensures (entry_place _ c.args.n.now.nodes _ _ _ c.requires.whole.0 c.requires.small (sym c.has.ensures ∙ c.if-has.true)) in
    let here = slots_entry g.K.Item.plain g.V.Item.plain g.C.Level.shape c.args.n.now.data c.args.n.now.nodes c.args.n.now.entries.items c.args.n.now.children.items c.args.d (sym c.has.ensures ∙ c.if-has.true) _ c.place.ensures within _ c.index-e.ensures in
    h _ _ _ c.test.ensures ∙ sym (all_one (λ q. p q.key q.value) (pair_of g.K.Item.plain g.V.Item.plain c.index-e.result.now) _ here)

pub returns-then-has-2 : goal.returns-then-has-2
returns-then-has-2 g c = λ p h.
    let within : c.place-then-has-2.result < length c.args.n.now.children.items = rw c.place-then-has-2.ensures (child_place c.args.n.now.data _ _ _ _ c.requires.whole.0 c.requires.small (sym c.has-else-has.ensures ∙ c.if-has-2.true)) in
    let here = slots_child g.K.Item.plain g.V.Item.plain g.C.Level.shape c.args.n.now.data c.args.n.now.nodes c.args.n.now.entries.items c.args.n.now.children.items c.args.d (sym c.has.ensures ∙ c.if-has.false) (sym c.has-else-has.ensures ∙ c.if-has-2.true) _ c.place-then-has-2.ensures within c.index.result.now c.index.ensures in
    let at : g.C.Level.shape c.get.result.now ≡ g.C.Level.shape (value_of c.index.result.now) = ap g.C.Level.shape c.get.ensures in
    c.all.ensures p h ∙ ap (list_all (λ q. p q.key q.value)) (ap pairs at ∙ sym (ap slot_pairs here ∙ slot_pairs-child (g.C.Level.shape (value_of c.index.result.now))))

pub returns-else-has-2 : goal.returns-else-has-2
returns-else-has-2 g c = λ p h.
    let here = slots_free g.K.Item.plain g.V.Item.plain g.C.Level.shape c.args.n.now.data c.args.n.now.nodes c.args.n.now.entries.items c.args.n.now.children.items c.args.d (sym c.has.ensures ∙ c.if-has.false) (sym c.has-else-has.ensures ∙ c.if-has-2.false) in
    sym (ap (λ s. list_all (λ q. p q.key q.value) (slot_pairs s)) here ∙ ap (list_all (λ q. p q.key q.value)) slot_pairs-free)
