-- By what stands at the key's digit.
use Rattle.std.proofs.Common.{◌≡◌, ℕ, ◌∙◌, ◌+◌, ◌-◌, ◌≤◌, ◌∷◌, [], lit<, length, get_or, Some, arith, refl, sym, ap, subst, eqb-true, ne_eqb}
use Rattle.std.specs.Prelude.{is_some, IfSome, IfNone}
use Rattle.std.proofs.Math.ListN.{set}
use Rattle.std.proofs.Math.Nat.{mul-le-mul_left}
use Rattle.std.proofs.lemmas.List.{length-set}
use Rattle.std.proofs.lemmas.Option.{slice_get-get_or}
use Rattle.std.proofs.lemmas.Bool.{true≢false}
use Rattle.std.proofs.lemmas.List.Elements.{All-set}
use Rattle.cow_model.specs.Canon.{branch, pairs, digit, without}
use Rattle.cow_model.proofs.CanonRows.{All_at, child_place}
use Rattle.cow_model.proofs.CanonSlots.{get_entry, get_free}
use Rattle.cow_champ.specs.Node.{slots_of, IsWholeChild}
use Rattle.cow_champ.proofs.Outcomes.{when_ok}
use Rattle.cow_champ.proofs.RowSlots.{slots_free}
use Rattle.cow_champ.proofs.Spendings.{spends_any, spends_more, path_more}
use Rattle.cow_trim.specs.Removal.{plain_pair, without_key}
use Rattle.cow_trim.proofs.Below.{below_within, below_agrees, below_canonical, below_two, below_held, below_more, below_path, below_kept, below_cut, below_lifted}
use Rattle.cow_trim.proofs.Leavings.{always_err, own_entry, gives_two, keeps_two}
use Rattle.cow_trim.proofs.Removals.{cut_at_entry}
use Rattle.cow_trim.proofs.branch.BranchTrim.cut_in.Goals as goal

pub withdraw-requires : goal.withdraw-requires
withdraw-requires g c = (lit< tt, (c.requires.whole, (c.digit_of-d.ensures.small, eqb-true _ 1 (sym c.has.ensures ∙ c.if-has.true))))

pub returns-then-has-clause-key : goal.returns-then-has-clause-key
returns-then-has-clause-key g c =
    let k = g.E.Equivalent.sought c.args.key.now in
    let at_k = c.digit_of-d.ensures.digit ∙ ap (λ x. digit x g.row.AT) c.requires.hash in
    (own_entry k _ _ (get_entry g.K.Key.hash_of _ _ _ c.requires.stacked.1 (g.met.C.Level.at_most c.requires.stacked.0) c.requires.canonical k c.digit_of-d.result at_k _ c.withdraw.ensures.was) c.requires.there).0

pub returns-then-has-clause-value : goal.returns-then-has-clause-value
returns-then-has-clause-value g c =
    let k = g.E.Equivalent.sought c.args.key.now in
    let at_k = c.digit_of-d.ensures.digit ∙ ap (λ x. digit x g.row.AT) c.requires.hash in
    (own_entry k _ _ (get_entry g.K.Key.hash_of _ _ _ c.requires.stacked.1 (g.met.C.Level.at_most c.requires.stacked.0) c.requires.canonical k c.digit_of-d.result at_k _ c.withdraw.ensures.was) c.requires.there).1

pub returns-then-has-clause-new : goal.returns-then-has-clause-new
returns-then-has-clause-new g c =
    let k = g.E.Equivalent.sought c.args.key.now in
    let at_k = c.digit_of-d.ensures.digit ∙ ap (λ x. digit x g.row.AT) c.requires.hash in
    let own = own_entry k _ _ (get_entry g.K.Key.hash_of _ _ _ c.requires.stacked.1 (g.met.C.Level.at_most c.requires.stacked.0) c.requires.canonical k c.digit_of-d.result at_k _ c.withdraw.ensures.was) c.requires.there in
    cut_at_entry g.K.Key.hash_of _ _ _ c.requires.stacked.1 (g.met.C.Level.at_most c.requires.stacked.0) c.requires.canonical k c.digit_of-d.result at_k _ c.withdraw.ensures.others _ c.withdraw.ensures.was own.0 c.withdraw.ensures.is

pub returns-then-has-clause-spent : goal.returns-then-has-clause-spent
returns-then-has-clause-spent g c = spends_any _ _ _

pub unreachable-requires : goal.unreachable-requires
unreachable-requires g c =
    let k = g.E.Equivalent.sought c.args.key.now in
    let at_k = c.digit_of-d.ensures.digit ∙ ap (λ x. digit x g.row.AT) c.requires.hash in
    absurd (true≢false (sym c.requires.there ∙ ap is_some (get_free g.K.Key.hash_of _ _ _ c.requires.stacked.1 (g.met.C.Level.at_most c.requires.stacked.0) c.requires.canonical k c.digit_of-d.result at_k
    (slots_free _ _ g.C.Level.shape _ _ _ _ _ (sym c.has.ensures ∙ c.if-has.false) (sym c.has-else-has.ensures ∙ c.if-has-2.false)))))

pub make_room-requires : goal.make_room-requires
make_room-requires g c = (lit< tt, (c.requires.stacked, (c.requires.whole, rw c.place-j.ensures (child_place c.args.self.now.data _ _ _ _ c.requires.whole.0 c.digit_of-d.ensures.small (sym c.has-else-has.ensures ∙ c.if-has-2.true)))))

pub index_mut-child-requires : goal.index_mut-child-requires
index_mut-child-requires g c =
    let a = child_place c.args.self.now.data _ _ _ _ c.requires.whole.0 c.digit_of-d.ensures.small (sym c.has-else-has.ensures ∙ c.if-has-2.true) in
    omega (arith, a, ap length c.make_room.ensures.children, c.place-j.ensures, c.make_room.new.n.children.ok.0)

pub cut_held-answer-requires-clause-whole : goal.cut_held-answer-requires-clause-whole
cut_held-answer-requires-clause-whole g c =
    let x = c.index_mut-child.ensures.value ∙ ap (λ xs. get_or xs c.place-j.result c.index_mut-child.result.now) c.make_room.ensures.children in
    (All_at (IsWholeChild g.C.Level.IsWhole) c.args.self.now.children.items c.requires.whole.2 c.place-j.result (below_within g.K.Item.plain g.V.Item.plain g.C.Level.shape g.K.Key.hash_of g.row.AT g.C.Level.LEVEL c.requires.stacked.1 (g.met.C.Level.at_most c.requires.stacked.0) c.args.self.now.data c.args.self.now.nodes c.args.self.now.entries.items c.args.self.now.children.items c.requires.whole.0 c.requires.canonical c.args.hash c.digit_of-d.result c.digit_of-d.ensures.digit (sym c.has.ensures ∙ c.if-has.false) (sym c.has-else-has.ensures ∙ c.if-has-2.true) c.place-j.result c.place-j.ensures c.index_mut-child.result.now x) c.index_mut-child.result.now x).1

pub cut_held-answer-requires-clause-agree : goal.cut_held-answer-requires-clause-agree
cut_held-answer-requires-clause-agree g c =
    let x = c.index_mut-child.ensures.value ∙ ap (λ xs. get_or xs c.place-j.result c.index_mut-child.result.now) c.make_room.ensures.children in
    below_agrees g.K.Item.plain g.V.Item.plain g.C.Level.shape g.K.Key.hash_of g.row.AT g.C.Level.LEVEL c.requires.stacked.1 (g.met.C.Level.at_most c.requires.stacked.0) c.args.self.now.data c.args.self.now.nodes c.args.self.now.entries.items c.args.self.now.children.items c.requires.whole.0 c.requires.canonical c.args.hash c.digit_of-d.result c.digit_of-d.ensures.digit (sym c.has.ensures ∙ c.if-has.false) (sym c.has-else-has.ensures ∙ c.if-has-2.true) c.place-j.result c.place-j.ensures c.index_mut-child.result.now x c.requires.agree

pub cut_held-answer-requires-clause-canonical : goal.cut_held-answer-requires-clause-canonical
cut_held-answer-requires-clause-canonical g c =
    let x = c.index_mut-child.ensures.value ∙ ap (λ xs. get_or xs c.place-j.result c.index_mut-child.result.now) c.make_room.ensures.children in
    below_canonical g.K.Item.plain g.V.Item.plain g.C.Level.shape g.K.Key.hash_of g.row.AT g.C.Level.LEVEL c.requires.stacked.1 (g.met.C.Level.at_most c.requires.stacked.0) c.args.self.now.data c.args.self.now.nodes c.args.self.now.entries.items c.args.self.now.children.items c.requires.whole.0 c.requires.canonical c.args.hash c.digit_of-d.result c.digit_of-d.ensures.digit (sym c.has.ensures ∙ c.if-has.false) (sym c.has-else-has.ensures ∙ c.if-has-2.true) c.place-j.result c.place-j.ensures c.index_mut-child.result.now x

pub cut_held-answer-requires-clause-there : goal.cut_held-answer-requires-clause-there
cut_held-answer-requires-clause-there g c =
    let x = c.index_mut-child.ensures.value ∙ ap (λ xs. get_or xs c.place-j.result c.index_mut-child.result.now) c.make_room.ensures.children in
    let k = g.E.Equivalent.sought c.args.key.now in
    ap is_some (sym (below_held g.K.Item.plain g.V.Item.plain g.C.Level.shape g.K.Key.hash_of g.row.AT g.C.Level.LEVEL c.requires.stacked.1 (g.met.C.Level.at_most c.requires.stacked.0) c.args.self.now.data c.args.self.now.nodes c.args.self.now.entries.items c.args.self.now.children.items c.requires.whole.0 c.requires.canonical c.args.hash c.digit_of-d.result c.digit_of-d.ensures.digit (sym c.has.ensures ∙ c.if-has.false) (sym c.has-else-has.ensures ∙ c.if-has-2.true) c.place-j.result c.place-j.ensures c.index_mut-child.result.now x k c.requires.hash)) ∙ c.requires.there

pub cut_held-answer-requires-clause-spare : goal.cut_held-answer-requires-clause-spare
cut_held-answer-requires-clause-spare g c =
    let x = c.index_mut-child.ensures.value ∙ ap (λ xs. get_or xs c.place-j.result c.index_mut-child.result.now) c.make_room.ensures.children in
    let more = below_more g.K.Item.plain g.V.Item.plain g.C.Level.shape g.K.Key.hash_of g.row.AT g.C.Level.LEVEL c.requires.stacked.1 (g.met.C.Level.at_most c.requires.stacked.0) c.args.self.now.data c.args.self.now.nodes c.args.self.now.entries.items c.args.self.now.children.items c.requires.whole.0 c.requires.canonical c.args.hash c.digit_of-d.result c.digit_of-d.ensures.digit (sym c.has.ensures ∙ c.if-has.false) (sym c.has-else-has.ensures ∙ c.if-has-2.true) c.place-j.result c.place-j.ensures c.index_mut-child.result.now x in
    let one = below_within g.K.Item.plain g.V.Item.plain g.C.Level.shape g.K.Key.hash_of g.row.AT g.C.Level.LEVEL c.requires.stacked.1 (g.met.C.Level.at_most c.requires.stacked.0) c.args.self.now.data c.args.self.now.nodes c.args.self.now.entries.items c.args.self.now.children.items c.requires.whole.0 c.requires.canonical c.args.hash c.digit_of-d.result c.digit_of-d.ensures.digit (sym c.has.ensures ∙ c.if-has.false) (sym c.has-else-has.ensures ∙ c.if-has-2.true) c.place-j.result c.place-j.ensures c.index_mut-child.result.now x in
    omega (arith, more, one, c.requires.spare, c.requires.stacked.1, g.met.C.Level.at_most c.requires.stacked.0)

pub returns-in_err-gone-clause-kept : goal.returns-in_err-gone-clause-kept
returns-in_err-gone-clause-kept g c =
    let x = c.index_mut-child.ensures.value ∙ ap (λ xs. get_or xs c.place-j.result c.index_mut-child.result.now) c.make_room.ensures.children in
    let kept : branch (slots_of g.K.Item.plain g.V.Item.plain g.C.Level.shape c.make_room.new.n.data c.make_room.new.n.nodes c.make_room.new.n.entries.items (set c.make_room.new.n.children.items c.place-j.result c.settle.new.self)) ≡ branch (slots_of g.K.Item.plain g.V.Item.plain g.C.Level.shape c.args.self.now.data c.args.self.now.nodes c.args.self.now.entries.items c.args.self.now.children.items) = rw (c.make_room.ensures.data, c.make_room.ensures.nodes, c.make_room.ensures.entries, c.make_room.ensures.children) (below_kept g.K.Item.plain g.V.Item.plain g.C.Level.shape g.K.Key.hash_of g.row.AT g.C.Level.LEVEL c.requires.stacked.1 (g.met.C.Level.at_most c.requires.stacked.0) c.args.self.now.data c.args.self.now.nodes c.args.self.now.entries.items c.args.self.now.children.items c.requires.whole.0 c.requires.canonical c.args.hash c.digit_of-d.result c.digit_of-d.ensures.digit (sym c.has.ensures ∙ c.if-has.false) (sym c.has-else-has.ensures ∙ c.if-has-2.true) c.place-j.result c.place-j.ensures c.index_mut-child.result.now x c.settle.new.self (ap g.C.Level.shape (ap (λ y. y.value) c.settle.ensures) ∙ c.in_err-gone.ensures.kept)) in
    always_err c.from_residual.result kept

pub returns-in_err-gone-clause-spent : goal.returns-in_err-gone-clause-spent
returns-in_err-gone-clause-spent g c =
    let x = c.index_mut-child.ensures.value ∙ ap (λ xs. get_or xs c.place-j.result c.index_mut-child.result.now) c.make_room.ensures.children in
    let more = below_more g.K.Item.plain g.V.Item.plain g.C.Level.shape g.K.Key.hash_of g.row.AT g.C.Level.LEVEL c.requires.stacked.1 (g.met.C.Level.at_most c.requires.stacked.0) c.args.self.now.data c.args.self.now.nodes c.args.self.now.entries.items c.args.self.now.children.items c.requires.whole.0 c.requires.canonical c.args.hash c.digit_of-d.result c.digit_of-d.ensures.digit (sym c.has.ensures ∙ c.if-has.false) (sym c.has-else-has.ensures ∙ c.if-has-2.true) c.place-j.result c.place-j.ensures c.index_mut-child.result.now x in
    let one = below_within g.K.Item.plain g.V.Item.plain g.C.Level.shape g.K.Key.hash_of g.row.AT g.C.Level.LEVEL c.requires.stacked.1 (g.met.C.Level.at_most c.requires.stacked.0) c.args.self.now.data c.args.self.now.nodes c.args.self.now.entries.items c.args.self.now.children.items c.requires.whole.0 c.requires.canonical c.args.hash c.digit_of-d.result c.digit_of-d.ensures.digit (sym c.has.ensures ∙ c.if-has.false) (sym c.has-else-has.ensures ∙ c.if-has-2.true) c.place-j.result c.place-j.ensures c.index_mut-child.result.now x in
    spends_more _ _ _ _ _ _ (omega (arith, more, one, c.requires.stacked.1, g.met.C.Level.at_most c.requires.stacked.0)) (mul-le-mul_left (g.K.Item.WEIGHT + g.V.Item.WEIGHT) (omega (arith, more, one))) c.in_err-gone.ensures.spent

pub returns-in_err-gone-clause-path : goal.returns-in_err-gone-clause-path
returns-in_err-gone-clause-path g c =
    let x = c.index_mut-child.ensures.value ∙ ap (λ xs. get_or xs c.place-j.result c.index_mut-child.result.now) c.make_room.ensures.children in
    path_more (g.K.Item.WEIGHT + g.V.Item.WEIGHT) _ _ _ _ (below_path g.K.Item.plain g.V.Item.plain g.C.Level.shape g.K.Key.hash_of g.row.AT g.C.Level.LEVEL c.requires.stacked.1 (g.met.C.Level.at_most c.requires.stacked.0) c.args.self.now.data c.args.self.now.nodes c.args.self.now.entries.items c.args.self.now.children.items c.requires.whole.0 c.requires.canonical c.args.hash c.digit_of-d.result c.digit_of-d.ensures.digit (sym c.has.ensures ∙ c.if-has.false) (sym c.has-else-has.ensures ∙ c.if-has-2.true) c.place-j.result c.place-j.ensures c.index_mut-child.result.now x) c.in_err-gone.ensures.path

pub returns-in-None-clause-spent : goal.returns-in-None-clause-spent
returns-in-None-clause-spent g c =
    let x = c.index_mut-child.ensures.value ∙ ap (λ xs. get_or xs c.place-j.result c.index_mut-child.result.now) c.make_room.ensures.children in
    let more = below_more g.K.Item.plain g.V.Item.plain g.C.Level.shape g.K.Key.hash_of g.row.AT g.C.Level.LEVEL c.requires.stacked.1 (g.met.C.Level.at_most c.requires.stacked.0) c.args.self.now.data c.args.self.now.nodes c.args.self.now.entries.items c.args.self.now.children.items c.requires.whole.0 c.requires.canonical c.args.hash c.digit_of-d.result c.digit_of-d.ensures.digit (sym c.has.ensures ∙ c.if-has.false) (sym c.has-else-has.ensures ∙ c.if-has-2.true) c.place-j.result c.place-j.ensures c.index_mut-child.result.now x in
    let one = below_within g.K.Item.plain g.V.Item.plain g.C.Level.shape g.K.Key.hash_of g.row.AT g.C.Level.LEVEL c.requires.stacked.1 (g.met.C.Level.at_most c.requires.stacked.0) c.args.self.now.data c.args.self.now.nodes c.args.self.now.entries.items c.args.self.now.children.items c.requires.whole.0 c.requires.canonical c.args.hash c.digit_of-d.result c.digit_of-d.ensures.digit (sym c.has.ensures ∙ c.if-has.false) (sym c.has-else-has.ensures ∙ c.if-has-2.true) c.place-j.result c.place-j.ensures c.index_mut-child.result.now x in
    spends_more _ _ _ _ _ _ (omega (arith, more, one, c.requires.stacked.1, g.met.C.Level.at_most c.requires.stacked.0)) (mul-le-mul_left (g.K.Item.WEIGHT + g.V.Item.WEIGHT) (omega (arith, more, one))) c.in_ok-gone.ensures.spent

pub returns-in-None-clause-path : goal.returns-in-None-clause-path
returns-in-None-clause-path g c =
    let x = c.index_mut-child.ensures.value ∙ ap (λ xs. get_or xs c.place-j.result c.index_mut-child.result.now) c.make_room.ensures.children in
    path_more (g.K.Item.WEIGHT + g.V.Item.WEIGHT) _ _ _ _ (below_path g.K.Item.plain g.V.Item.plain g.C.Level.shape g.K.Key.hash_of g.row.AT g.C.Level.LEVEL c.requires.stacked.1 (g.met.C.Level.at_most c.requires.stacked.0) c.args.self.now.data c.args.self.now.nodes c.args.self.now.entries.items c.args.self.now.children.items c.requires.whole.0 c.requires.canonical c.args.hash c.digit_of-d.result c.digit_of-d.ensures.digit (sym c.has.ensures ∙ c.if-has.false) (sym c.has-else-has.ensures ∙ c.if-has-2.true) c.place-j.result c.place-j.ensures c.index_mut-child.result.now x) c.in_ok-gone.ensures.path

pub returns-in-None-clause-value : goal.returns-in-None-clause-value
returns-in-None-clause-value g c =
    let x = c.index_mut-child.ensures.value ∙ ap (λ xs. get_or xs c.place-j.result c.index_mut-child.result.now) c.make_room.ensures.children in
    let k = g.E.Equivalent.sought c.args.key.now in
    c.in_ok-gone.ensures.value ∙ sym (below_held g.K.Item.plain g.V.Item.plain g.C.Level.shape g.K.Key.hash_of g.row.AT g.C.Level.LEVEL c.requires.stacked.1 (g.met.C.Level.at_most c.requires.stacked.0) c.args.self.now.data c.args.self.now.nodes c.args.self.now.entries.items c.args.self.now.children.items c.requires.whole.0 c.requires.canonical c.args.hash c.digit_of-d.result c.digit_of-d.ensures.digit (sym c.has.ensures ∙ c.if-has.false) (sym c.has-else-has.ensures ∙ c.if-has-2.true) c.place-j.result c.place-j.ensures c.index_mut-child.result.now x k c.requires.hash)

pub returns-in-Some-clause-value : goal.returns-in-Some-clause-value
returns-in-Some-clause-value g c =
    let x = c.index_mut-child.ensures.value ∙ ap (λ xs. get_or xs c.place-j.result c.index_mut-child.result.now) c.make_room.ensures.children in
    let k = g.E.Equivalent.sought c.args.key.now in
    c.in_ok-gone.ensures.value ∙ sym (below_held g.K.Item.plain g.V.Item.plain g.C.Level.shape g.K.Key.hash_of g.row.AT g.C.Level.LEVEL c.requires.stacked.1 (g.met.C.Level.at_most c.requires.stacked.0) c.args.self.now.data c.args.self.now.nodes c.args.self.now.entries.items c.args.self.now.children.items c.requires.whole.0 c.requires.canonical c.args.hash c.digit_of-d.result c.digit_of-d.ensures.digit (sym c.has.ensures ∙ c.if-has.false) (sym c.has-else-has.ensures ∙ c.if-has-2.true) c.place-j.result c.place-j.ensures c.index_mut-child.result.now x k c.requires.hash)

pub returns-in-None-clause-new : goal.returns-in-None-clause-new
returns-in-None-clause-new g c =
    let x = c.index_mut-child.ensures.value ∙ ap (λ xs. get_or xs c.place-j.result c.index_mut-child.result.now) c.make_room.ensures.children in
    let k = g.E.Equivalent.sought c.args.key.now in
    let there = ap is_some (sym (below_held g.K.Item.plain g.V.Item.plain g.C.Level.shape g.K.Key.hash_of g.row.AT g.C.Level.LEVEL c.requires.stacked.1 (g.met.C.Level.at_most c.requires.stacked.0) c.args.self.now.data c.args.self.now.nodes c.args.self.now.entries.items c.args.self.now.children.items c.requires.whole.0 c.requires.canonical c.args.hash c.digit_of-d.result c.digit_of-d.ensures.digit (sym c.has.ensures ∙ c.if-has.false) (sym c.has-else-has.ensures ∙ c.if-has-2.true) c.place-j.result c.place-j.ensures c.index_mut-child.result.now x k c.requires.hash)) ∙ c.requires.there in
    let below = ne_eqb g.C.Level.LEVEL 0 (λ z. omega (arith, z, c.requires.stacked.1)) in
    let new = subst (λ o. IfNone o (g.C.Level.shape c.cut_held-answer.new.node.value ≡ without_key g.K.Key.hash_of g.C.Level.LEVEL k (g.C.Level.shape c.index_mut-child.result.now.value))) c.in-None.is c.in_ok-gone.ensures.new in
    let two = keeps_two g.C.Level.LEVEL k _ there below (sym (ap is_some c.in-None.is) ∙ c.in_ok-gone.ensures.one) (below_canonical g.K.Item.plain g.V.Item.plain g.C.Level.shape g.K.Key.hash_of g.row.AT g.C.Level.LEVEL c.requires.stacked.1 (g.met.C.Level.at_most c.requires.stacked.0) c.args.self.now.data c.args.self.now.nodes c.args.self.now.entries.items c.args.self.now.children.items c.requires.whole.0 c.requires.canonical c.args.hash c.digit_of-d.result c.digit_of-d.ensures.digit (sym c.has.ensures ∙ c.if-has.false) (sym c.has-else-has.ensures ∙ c.if-has-2.true) c.place-j.result c.place-j.ensures c.index_mut-child.result.now x).distinct (below_two g.K.Item.plain g.V.Item.plain g.C.Level.shape g.K.Key.hash_of g.row.AT g.C.Level.LEVEL c.requires.stacked.1 (g.met.C.Level.at_most c.requires.stacked.0) c.args.self.now.data c.args.self.now.nodes c.args.self.now.entries.items c.args.self.now.children.items c.requires.whole.0 c.requires.canonical c.args.hash c.digit_of-d.result c.digit_of-d.ensures.digit (sym c.has.ensures ∙ c.if-has.false) (sym c.has-else-has.ensures ∙ c.if-has-2.true) c.place-j.result c.place-j.ensures c.index_mut-child.result.now x) in
    rw (c.make_room.ensures.data, c.make_room.ensures.nodes, c.make_room.ensures.entries, c.make_room.ensures.children) (below_cut g.K.Item.plain g.V.Item.plain g.C.Level.shape g.K.Key.hash_of g.row.AT g.C.Level.LEVEL c.requires.stacked.1 (g.met.C.Level.at_most c.requires.stacked.0) c.args.self.now.data c.args.self.now.nodes c.args.self.now.entries.items c.args.self.now.children.items c.requires.whole.0 c.requires.canonical c.args.hash c.digit_of-d.result c.digit_of-d.ensures.digit (sym c.has.ensures ∙ c.if-has.false) (sym c.has-else-has.ensures ∙ c.if-has-2.true) c.place-j.result c.place-j.ensures c.index_mut-child.result.now x k c.requires.hash c.settle.new.self two (ap g.C.Level.shape (ap (λ y. y.value) c.settle.ensures) ∙ new))

pub lift-requires : goal.lift-requires
lift-requires g c =
    let x = c.index_mut-child.ensures.value ∙ ap (λ xs. get_or xs c.place-j.result c.index_mut-child.result.now) c.make_room.ensures.children in
    let k = g.E.Equivalent.sought c.args.key.now in
    let there = ap is_some (sym (below_held g.K.Item.plain g.V.Item.plain g.C.Level.shape g.K.Key.hash_of g.row.AT g.C.Level.LEVEL c.requires.stacked.1 (g.met.C.Level.at_most c.requires.stacked.0) c.args.self.now.data c.args.self.now.nodes c.args.self.now.entries.items c.args.self.now.children.items c.requires.whole.0 c.requires.canonical c.args.hash c.digit_of-d.result c.digit_of-d.ensures.digit (sym c.has.ensures ∙ c.if-has.false) (sym c.has-else-has.ensures ∙ c.if-has-2.true) c.place-j.result c.place-j.ensures c.index_mut-child.result.now x k c.requires.hash)) ∙ c.requires.there in
    let below = ne_eqb g.C.Level.LEVEL 0 (λ z. omega (arith, z, c.requires.stacked.1)) in
    let within = below_within g.K.Item.plain g.V.Item.plain g.C.Level.shape g.K.Key.hash_of g.row.AT g.C.Level.LEVEL c.requires.stacked.1 (g.met.C.Level.at_most c.requires.stacked.0) c.args.self.now.data c.args.self.now.nodes c.args.self.now.entries.items c.args.self.now.children.items c.requires.whole.0 c.requires.canonical c.args.hash c.digit_of-d.result c.digit_of-d.ensures.digit (sym c.has.ensures ∙ c.if-has.false) (sym c.has-else-has.ensures ∙ c.if-has-2.true) c.place-j.result c.place-j.ensures c.index_mut-child.result.now x in
    let size = gives_two g.C.Level.LEVEL k _ there below (sym (ap is_some c.in-Some.is) ∙ c.in_ok-gone.ensures.one) in
    let whole = (All_at (IsWholeChild g.C.Level.IsWhole) c.args.self.now.children.items c.requires.whole.2 c.place-j.result within c.index_mut-child.result.now x).1 in
    let few = g.met.C.Level.few c.index_mut-child.result.now.value c.requires.stacked.0 whole (below_canonical g.K.Item.plain g.V.Item.plain g.C.Level.shape g.K.Key.hash_of g.row.AT g.C.Level.LEVEL c.requires.stacked.1 (g.met.C.Level.at_most c.requires.stacked.0) c.args.self.now.data c.args.self.now.nodes c.args.self.now.entries.items c.args.self.now.children.items c.requires.whole.0 c.requires.canonical c.args.hash c.digit_of-d.result c.digit_of-d.ensures.digit (sym c.has.ensures ∙ c.if-has.false) (sym c.has-else-has.ensures ∙ c.if-has-2.true) c.place-j.result c.place-j.ensures c.index_mut-child.result.now x) in
    let at_j = slice_get-get_or c.args.self.now.children.items c.place-j.result c.index_mut-child.result.now within ∙ ap Some (sym x) in
    let room = when_ok c.make_room.result (sym c.is_err.ensures.value ∙ c.if-is_err.false) c.make_room.ensures.room c.index_mut-child.result.now at_j (omega (arith, few, size)) in
    let settled : IsWholeChild g.C.Level.IsWhole c.settle.new.self = (ap (λ y. y.alone) c.settle.ensures, subst g.C.Level.IsWhole (sym (ap (λ y. y.value) c.settle.ensures)) c.cut_held-answer.ensures.whole) in (
      lit< tt,
      (
        rw (c.make_room.ensures.data, c.make_room.ensures.nodes, c.make_room.ensures.entries, c.make_room.ensures.children) (rw (length-set) c.requires.whole.0, c.requires.whole.1, All-set (IsWholeChild g.C.Level.IsWhole) c.args.self.now.children.items c.place-j.result c.settle.new.self settled c.requires.whole.2),
        (c.digit_of-d.ensures.small, (rw c.make_room.ensures.nodes (eqb-true _ 1 (sym c.has-else-has.ensures ∙ c.if-has-2.true)), room)),
      ),
    )

pub returns-in-Some-clause-new : goal.returns-in-Some-clause-new
returns-in-Some-clause-new g c =
    let x = c.index_mut-child.ensures.value ∙ ap (λ xs. get_or xs c.place-j.result c.index_mut-child.result.now) c.make_room.ensures.children in
    let k = g.E.Equivalent.sought c.args.key.now in
    let left = subst (λ o. IfSome o (λ p. without k (pairs (g.C.Level.shape c.index_mut-child.result.now.value)) ≡ plain_pair g.K.Item.plain g.V.Item.plain p ∷ [])) c.in-Some.is c.in_ok-gone.ensures.left in
    let same : (z : ℕ) → slots_of g.K.Item.plain g.V.Item.plain g.C.Level.shape c.make_room.new.n.data c.make_room.new.n.nodes c.make_room.new.n.entries.items (set c.make_room.new.n.children.items c.place-j.result c.settle.new.self) z ≡ slots_of g.K.Item.plain g.V.Item.plain g.C.Level.shape c.args.self.now.data c.args.self.now.nodes c.args.self.now.entries.items (set c.args.self.now.children.items c.place-j.result c.settle.new.self) z = λ z. rw (c.make_room.ensures.data, c.make_room.ensures.nodes, c.make_room.ensures.entries, c.make_room.ensures.children) refl in
    below_lifted g.K.Item.plain g.V.Item.plain g.C.Level.shape g.K.Key.hash_of g.row.AT g.C.Level.LEVEL c.requires.stacked.1 (g.met.C.Level.at_most c.requires.stacked.0) c.args.self.now.data c.args.self.now.nodes c.args.self.now.entries.items c.args.self.now.children.items c.requires.whole.0 c.requires.canonical c.args.hash c.digit_of-d.result c.digit_of-d.ensures.digit (sym c.has.ensures ∙ c.if-has.false) (sym c.has-else-has.ensures ∙ c.if-has-2.true) c.place-j.result c.place-j.ensures c.index_mut-child.result.now x k c.requires.hash c.settle.new.self _ left _ c.lift.ensures.is (λ z ne. c.lift.ensures.others z ne ∙ same z)

pub returns-in-Some-clause-spent : goal.returns-in-Some-clause-spent
returns-in-Some-clause-spent g c =
    let x = c.index_mut-child.ensures.value ∙ ap (λ xs. get_or xs c.place-j.result c.index_mut-child.result.now) c.make_room.ensures.children in
    let more = below_more g.K.Item.plain g.V.Item.plain g.C.Level.shape g.K.Key.hash_of g.row.AT g.C.Level.LEVEL c.requires.stacked.1 (g.met.C.Level.at_most c.requires.stacked.0) c.args.self.now.data c.args.self.now.nodes c.args.self.now.entries.items c.args.self.now.children.items c.requires.whole.0 c.requires.canonical c.args.hash c.digit_of-d.result c.digit_of-d.ensures.digit (sym c.has.ensures ∙ c.if-has.false) (sym c.has-else-has.ensures ∙ c.if-has-2.true) c.place-j.result c.place-j.ensures c.index_mut-child.result.now x in
    let one = below_within g.K.Item.plain g.V.Item.plain g.C.Level.shape g.K.Key.hash_of g.row.AT g.C.Level.LEVEL c.requires.stacked.1 (g.met.C.Level.at_most c.requires.stacked.0) c.args.self.now.data c.args.self.now.nodes c.args.self.now.entries.items c.args.self.now.children.items c.requires.whole.0 c.requires.canonical c.args.hash c.digit_of-d.result c.digit_of-d.ensures.digit (sym c.has.ensures ∙ c.if-has.false) (sym c.has-else-has.ensures ∙ c.if-has-2.true) c.place-j.result c.place-j.ensures c.index_mut-child.result.now x in
    let fewer : length (pairs (g.C.Level.shape c.index_mut-child.result.now.value)) ≤ length (pairs (branch (slots_of g.K.Item.plain g.V.Item.plain g.C.Level.shape c.args.self.now.data c.args.self.now.nodes c.args.self.now.entries.items c.args.self.now.children.items))) - length c.args.self.now.entries.items = omega (arith, more, one) in
    let copies = mul-le-mul_left (g.K.Item.WEIGHT + g.V.Item.WEIGHT) fewer in
    let s = c.in_ok-gone.ensures.spent in
    record {
      falls = omega (arith, s.falls, c.lift.ensures.spare, more, one, c.requires.stacked.1, g.met.C.Level.at_most c.requires.stacked.0);
      copied = omega (arith, s.copied, c.lift.ensures.copied, copies);
      kept = omega (arith, s.kept, c.lift.ensures.copied);
    }

pub returns-in-Some-clause-path : goal.returns-in-Some-clause-path
returns-in-Some-clause-path g c =
    let x = c.index_mut-child.ensures.value ∙ ap (λ xs. get_or xs c.place-j.result c.index_mut-child.result.now) c.make_room.ensures.children in
    let s = path_more (g.K.Item.WEIGHT + g.V.Item.WEIGHT) _ _ _ _ (below_path g.K.Item.plain g.V.Item.plain g.C.Level.shape g.K.Key.hash_of g.row.AT g.C.Level.LEVEL c.requires.stacked.1 (g.met.C.Level.at_most c.requires.stacked.0) c.args.self.now.data c.args.self.now.nodes c.args.self.now.entries.items c.args.self.now.children.items c.requires.whole.0 c.requires.canonical c.args.hash c.digit_of-d.result c.digit_of-d.ensures.digit (sym c.has.ensures ∙ c.if-has.false) (sym c.has-else-has.ensures ∙ c.if-has-2.true) c.place-j.result c.place-j.ensures c.index_mut-child.result.now x) c.in_ok-gone.ensures.path in
    omega (arith, s, c.lift.ensures.copied)
