-- By what stands at the key's digit.
use Rattle.std.proofs.Common.{◌≡◌, ◌≢◌, ℕ, ◌+◌, ◌<◌, ◌≤◌, List, [], ◌∷◌, map, length, get_or, Some, None, Ok, Err, true, false, cond, eqb, arith, rules, sym, refl, ap, ◌∙◌, subst, eqb-true, All, Bool, ◌-◌, ◌*◌, lit<}
use Rattle.std.proofs.Math.ListN.{set}
use Rattle.std.proofs.lemmas.List.Edits.{get_or-insert_at}
use Rattle.std.specs.List.{insert}
use Rattle.std.specs.Int.{bit_at}
use Rattle.std.specs.Result.{OnOk, OnErr, IfOk}
use Rattle.std.specs.Option.{option_map}
use Rattle.cow_model.specs.declared.plain.Literal.{Literal}
use Rattle.cow_model.specs.declared.value.Pair.{Pair}
use Rattle.cow_model.specs.Canon.{is_one, Tree, Slot, branch, digit, entry, child, free, IsCanonical, AgreeBelow, pairs, get, given, canon, count_where}
use Rattle.cow_model.proofs.CanonSlots.{get_entry, get_free, get_child, child_canonical, child_agrees, given_at_free, given_at_same, given_at_child, same_branch, child_group, count-group-le}
use Rattle.cow_model.specs.Slots.{rank}
use Rattle.cow_champ.specs.Node.{value_of, pair_of, slots_of, IsWholeChild, BothSettled}
use Rattle.cow_champ.proofs.RowSlots.{slots_entry, slots_child, slots_free}
use Rattle.cow_model.proofs.CanonRows.{entry_place, child_place, All_at, read_same, bit_zero}
use Rattle.cow_champ.proofs.Changes.{slots_child_here, slots_child_others, slots_entry_here, slots_entry_others, slots_add_here, slots_add_others, Fits-add, All-added, length-added}
use Rattle.cow_model.proofs.CanonRanks.{rank-le}
use Rattle.std.proofs.Math.Nat.{mul-le-mul_left}
use Rattle.cow_champ.specs.Spending.{on_path}
use Rattle.cow_champ.proofs.NodeCosts.{branch_few, branch_child}
use Rattle.cow_model.proofs.CanonCosts.{rank-bound}
use Rattle.cow_champ.proofs.Adds.{read_some}
use Rattle.cow_champ.proofs.Spendings.{spends_more, spends_loss, path_more}
use Rattle.cow_champ.proofs.Outcomes.{OnOk_map, OnErr_map}
use Rattle.cow_champ.proofs.branch.BranchLevel.put_in.Goals as goal
use Rattle.cow_champ.proofs.branch.BranchLevel.put_in.Given.{Over}

pub index-requires : goal.index-requires
index-requires g c =
    let a = entry_place _ c.args.self.now.nodes _ _ _ c.requires.whole.0 c.digit_of-d.ensures.small (sym c.has.ensures ∙ c.if-has.true) in
    omega (arith, a, c.place-i.ensures, c.args.self.now.entries.ok.0)

pub index_mut-e-requires : goal.index_mut-e-requires
index_mut-e-requires g c =
    let a = entry_place _ c.args.self.now.nodes _ _ _ c.requires.whole.0 c.digit_of-d.ensures.small (sym c.has.ensures ∙ c.if-has.true) in
    omega (arith, a, c.place-i.ensures, c.args.self.now.entries.ok.0)

pub index_mut-child-requires : goal.index_mut-child-requires
index_mut-child-requires g c =
    let a = child_place c.args.self.now.data _ _ _ _ c.requires.whole.0 c.digit_of-d.ensures.small (sym c.has-else-has.ensures ∙ c.if-has-2.true) in
    omega (arith, a, c.place-j.ensures, c.args.self.now.children.ok.0)

module _ (g : Over) (c : goal.After-put-arg-then-has-2-1 g) where
  within : c.place-j.result < length c.args.self.now.children.items
  within = rw c.place-j.ensures (child_place c.args.self.now.data _ _ _ _ c.requires.whole.0 c.digit_of-d.ensures.small (sym c.has-else-has.ensures ∙ c.if-has-2.true))

  here : slots_of g.K.Item.plain g.V.Item.plain g.C.Level.shape c.args.self.now.data c.args.self.now.nodes c.args.self.now.entries.items c.args.self.now.children.items c.digit_of-d.result ≡ child (g.C.Level.shape (value_of c.index_mut-child.result.now))
  here = slots_child _ _ g.C.Level.shape _ _ _ _ _ (sym c.has.ensures ∙ c.if-has.false) (sym c.has-else-has.ensures ∙ c.if-has-2.true) _ c.place-j.ensures within c.index_mut-child.result.now c.index_mut-child.ensures.value

pub put-answer-requires-clause-whole : goal.put-answer-requires-clause-whole
put-answer-requires-clause-whole g c =
    (All_at (IsWholeChild g.C.Level.IsWhole) c.args.self.now.children.items c.requires.whole.2 c.place-j.result (within g c) c.index_mut-child.result.now c.index_mut-child.ensures.value).1

pub put-answer-requires-clause-agree : goal.put-answer-requires-clause-agree
put-answer-requires-clause-agree g c =
    child_agrees g.K.Key.hash_of _ _ _ c.requires.stacked.1 (g.met.C.Level.at_most c.requires.stacked.0) c.requires.canonical c.args.hash c.requires.agree _ (rw (← c.digit_of-d.ensures.digit) (here g c))

pub put-answer-requires-clause-canonical : goal.put-answer-requires-clause-canonical
put-answer-requires-clause-canonical g c =
    child_canonical g.K.Key.hash_of _ _ _ c.requires.stacked.1 (g.met.C.Level.at_most c.requires.stacked.0) c.requires.canonical c.digit_of-d.result c.digit_of-d.ensures.small _ (here g c)

module _ (g : Over) (c : goal.After-self-then-has-2-1 g) where
  within' : c.place-j.result < length c.args.self.now.children.items
  within' = rw c.place-j.ensures (child_place c.args.self.now.data _ _ _ _ c.requires.whole.0 c.digit_of-d.ensures.small (sym c.has-else-has.ensures ∙ c.if-has-2.true))

  was_here : slots_of g.K.Item.plain g.V.Item.plain g.C.Level.shape c.args.self.now.data c.args.self.now.nodes c.args.self.now.entries.items c.args.self.now.children.items c.digit_of-d.result ≡ child (g.C.Level.shape (value_of c.index_mut-child.result.now))
  was_here = slots_child _ _ g.C.Level.shape _ _ _ _ _ (sym c.has.ensures ∙ c.if-has.false) (sym c.has-else-has.ensures ∙ c.if-has-2.true) _ c.place-j.ensures within' c.index_mut-child.result.now c.index_mut-child.ensures.value

  is_here : slots_of g.K.Item.plain g.V.Item.plain g.C.Level.shape c.args.self.now.data c.args.self.now.nodes c.args.self.now.entries.items (set c.args.self.now.children.items c.place-j.result c.settle-then-has-2.new.self) c.digit_of-d.result ≡ child (g.C.Level.shape (value_of c.settle-then-has-2.new.self))
  is_here = slots_child_here _ _ g.C.Level.shape _ _ _ _ _ _ _ (sym c.has.ensures ∙ c.if-has.false) (sym c.has-else-has.ensures ∙ c.if-has-2.true) c.place-j.ensures within'

  others : (x : ℕ) → x ≢ c.digit_of-d.result → slots_of g.K.Item.plain g.V.Item.plain g.C.Level.shape c.args.self.now.data c.args.self.now.nodes c.args.self.now.entries.items (set c.args.self.now.children.items c.place-j.result c.settle-then-has-2.new.self) x ≡ slots_of g.K.Item.plain g.V.Item.plain g.C.Level.shape c.args.self.now.data c.args.self.now.nodes c.args.self.now.entries.items c.args.self.now.children.items x
  others = slots_child_others _ _ g.C.Level.shape _ _ _ _ _ _ _ (sym c.has-else-has.ensures ∙ c.if-has-2.true) c.place-j.ensures

pub returns-then-has-2-clause-old : goal.returns-then-has-2-clause-old
returns-then-has-2-clause-old g c =
    rw (get_child g.K.Key.hash_of _ _ _ c.requires.stacked.1 (g.met.C.Level.at_most c.requires.stacked.0) c.requires.canonical (g.K.Item.plain c.args.key) c.digit_of-d.result
    (c.digit_of-d.ensures.digit ∙ ap (λ x. digit x g.row.AT) c.requires.hash) _ (was_here g c)) c.put-answer.ensures.old

pub returns-then-has-2-clause-new : goal.returns-then-has-2-clause-new
returns-then-has-2-clause-new g c =
    let at = slots_of g.K.Item.plain g.V.Item.plain g.C.Level.shape c.args.self.now.data c.args.self.now.nodes c.args.self.now.entries.items c.args.self.now.children.items in
    OnOk_map _ (λ new. given_at_child g.K.Key.hash_of at _ _ c.requires.stacked.1 (g.met.C.Level.at_most c.requires.stacked.0) c.requires.canonical (g.K.Item.plain c.args.key) (g.V.Item.plain c.args.value) c.digit_of-d.result
    (c.digit_of-d.ensures.digit ∙ ap (λ x. digit x g.row.AT) c.requires.hash) _ (others g c) _ (was_here g c) _ (ap g.C.Level.shape (ap (λ x. x.value) c.settle-then-has-2.ensures) ∙ new) (is_here g c)) c.put-answer.ensures.new

pub returns-then-has-2-clause-kept : goal.returns-then-has-2-clause-kept
returns-then-has-2-clause-kept g c =
    OnErr_map _ (λ kept. same_branch _ _ c.digit_of-d.result (is_here g c ∙ ap (λ x. child (g.C.Level.shape x)) (ap (λ x. x.value) c.settle-then-has-2.ensures) ∙ ap child kept ∙ sym (was_here g c)) (others g c)) c.put-answer.ensures.kept

pub returns-then-same-clause-old : goal.returns-then-same-clause-old
returns-then-same-clause-old g c =
    let within_e : c.place-i.result < length c.args.self.now.entries.items = rw c.place-i.ensures (entry_place _ c.args.self.now.nodes _ _ _ c.requires.whole.0 c.digit_of-d.ensures.small (sym c.has.ensures ∙ c.if-has.true)) in
    let e = sym c.same.ensures ∙ c.if-same.true in
    let r : c.replace-old.result ≡ c.index.result.now.value = c.replace-old.ensures.value ∙ ap (λ x. x.value) (read_same c.args.self.now.entries.items c.place-i.result _ _ within_e c.index_mut-e.ensures.value c.index.ensures) in
    rw r (sym (get_entry g.K.Key.hash_of _ _ _ c.requires.stacked.1 (g.met.C.Level.at_most c.requires.stacked.0) c.requires.canonical _ c.digit_of-d.result
    (c.digit_of-d.ensures.digit ∙ ap (λ x. digit x g.row.AT) c.requires.hash) _
    (slots_entry _ _ g.C.Level.shape _ _ _ _ _ (sym c.has.ensures ∙ c.if-has.true) _ c.place-i.ensures within_e _ c.index.ensures)
    ∙ rw e refl))

pub returns-then-same-clause-new : goal.returns-then-same-clause-new
returns-then-same-clause-new g c =
    let within_e : c.place-i.result < length c.args.self.now.entries.items = rw c.place-i.ensures (entry_place _ c.args.self.now.nodes _ _ _ c.requires.whole.0 c.digit_of-d.ensures.small (sym c.has.ensures ∙ c.if-has.true)) in
    let s = read_same c.args.self.now.entries.items c.place-i.result _ _ within_e c.index.ensures c.index_mut-e.ensures.value in
    let e : is_one (g.K.Item.plain c.index_mut-e.result.now.key) (g.K.Item.plain c.args.key) ≡ true = rw s at (sym c.same.ensures ∙ c.if-same.true) in
    let v : g.V.Item.plain c.settle.new.self ≡ g.V.Item.plain c.args.value = c.settle.ensures.same ∙ ap g.V.Item.plain c.replace-old.ensures.after in
    let f = pair_of g.K.Item.plain g.V.Item.plain in
    given_at_same g.K.Key.hash_of _ _ _ c.requires.stacked.1 (g.met.C.Level.at_most c.requires.stacked.0) c.requires.canonical (g.K.Item.plain c.args.key) (g.V.Item.plain c.args.value) c.digit_of-d.result
    (c.digit_of-d.ensures.digit ∙ ap (λ x. digit x g.row.AT) c.requires.hash) _
    (slots_entry_others _ _ g.C.Level.shape _ _ _ _ _ _ _ (sym c.has.ensures ∙ c.if-has.true) c.place-i.ensures)
    (f c.index_mut-e.result.now)
    (slots_entry _ _ g.C.Level.shape _ _ _ _ _ (sym c.has.ensures ∙ c.if-has.true) _ c.place-i.ensures within_e _ c.index_mut-e.ensures.value)
    e
    (slots_entry_here _ _ g.C.Level.shape _ _ _ _ _ _ _ (sym c.has.ensures ∙ c.if-has.true) c.place-i.ensures within_e
    ∙ ap (λ x. entry (record { key = g.K.Item.plain c.index_mut-e.result.now.key; value = x })) v)

pub deepen-requires : goal.deepen-requires
deepen-requires g c =
    let few = branch_few g.K.Item.plain g.V.Item.plain g.C.Level.shape g.K.Key.hash_of g.row.AT g.C.Level.LEVEL c.requires.stacked.1 (g.met.C.Level.at_most c.requires.stacked.0) c.args.self.now.data c.args.self.now.nodes c.args.self.now.entries.items c.args.self.now.children.items c.requires.whole.0 c.requires.canonical in
    let within_e : c.place-i.result < length c.args.self.now.entries.items = rw c.place-i.ensures (entry_place _ c.args.self.now.nodes _ _ _ c.requires.whole.0 c.digit_of-d.ensures.small (sym c.has.ensures ∙ c.if-has.true)) in (
      lit< tt,
      (
        c.requires.stacked,
        (
          c.requires.whole,
          (
            c.requires.hash,
            (
              c.digit_of-d.ensures.digit,
              (
                c.digit_of-d.ensures.small,
                (
                  eqb-true _ 1 (sym c.has.ensures ∙ c.if-has.true),
                  (
                    (λ x s. subst (λ y. is_one (g.K.Item.plain y.key) (g.K.Item.plain c.args.key) ≡ false) (read_some c.args.self.now.entries.items c.place-i.result (rank c.args.self.now.data c.digit_of-d.result) x c.index.result.now within_e c.place-i.ensures c.index.ensures s) (sym c.same.ensures ∙ c.if-same.false)),
                    (c.requires.canonical, omega (arith, few, c.requires.spare, c.requires.stacked.1, g.met.C.Level.at_most c.requires.stacked.0)),
                  ),
                ),
              ),
            ),
          ),
        ),
      ),
    )

pub returns-else-same-clause-spent : goal.returns-else-same-clause-spent
returns-else-same-clause-spent g c =
    let few = branch_few g.K.Item.plain g.V.Item.plain g.C.Level.shape g.K.Key.hash_of g.row.AT g.C.Level.LEVEL c.requires.stacked.1 (g.met.C.Level.at_most c.requires.stacked.0) c.args.self.now.data c.args.self.now.nodes c.args.self.now.entries.items c.args.self.now.children.items c.requires.whole.0 c.requires.canonical in
    spends_loss _ _ _ _ c.deepen.ensures.copied (omega (arith, few, c.deepen.ensures.spare, c.requires.stacked.1, g.met.C.Level.at_most c.requires.stacked.0))

pub put-answer-requires-clause-spare : goal.put-answer-requires-clause-spare
put-answer-requires-clause-spare g c =
    let more = branch_child g.K.Item.plain g.V.Item.plain g.C.Level.shape g.K.Key.hash_of g.row.AT g.C.Level.LEVEL c.requires.stacked.1 (g.met.C.Level.at_most c.requires.stacked.0) c.args.self.now.data c.args.self.now.nodes c.args.self.now.entries.items c.args.self.now.children.items c.requires.whole.0 c.requires.canonical
    c.digit_of-d.result (g.C.Level.shape (value_of c.index_mut-child.result.now)) c.digit_of-d.ensures.small (here g c) (bit_zero _ _ (sym c.has.ensures ∙ c.if-has.false)) (eqb-true _ 1 (sym c.has-else-has.ensures ∙ c.if-has-2.true)) in
    let one = within g c in
    omega (arith, more, one, c.requires.spare, c.requires.stacked.1, g.met.C.Level.at_most c.requires.stacked.0)

pub returns-then-has-2-clause-spent : goal.returns-then-has-2-clause-spent
returns-then-has-2-clause-spent g c =
    let more = branch_child g.K.Item.plain g.V.Item.plain g.C.Level.shape g.K.Key.hash_of g.row.AT g.C.Level.LEVEL c.requires.stacked.1 (g.met.C.Level.at_most c.requires.stacked.0) c.args.self.now.data c.args.self.now.nodes c.args.self.now.entries.items c.args.self.now.children.items c.requires.whole.0 c.requires.canonical
    c.digit_of-d.result (g.C.Level.shape (value_of c.index_mut-child.result.now)) c.digit_of-d.ensures.small (was_here g c) (bit_zero _ _ (sym c.has.ensures ∙ c.if-has.false)) (eqb-true _ 1 (sym c.has-else-has.ensures ∙ c.if-has-2.true)) in
    let one = within' g c in
    spends_more _ _ _ _ _ _ (omega (arith, more, one, c.requires.stacked.1, g.met.C.Level.at_most c.requires.stacked.0)) (mul-le-mul_left (g.K.Item.WEIGHT + g.V.Item.WEIGHT) (omega (arith, more, one))) c.put-answer.ensures.spent

pub returns-then-has-2-clause-path : goal.returns-then-has-2-clause-path
returns-then-has-2-clause-path g c =
    let at = slots_of g.K.Item.plain g.V.Item.plain g.C.Level.shape c.args.self.now.data c.args.self.now.nodes c.args.self.now.entries.items c.args.self.now.children.items in
    let t : Pair → Bool = λ p. eqb (g.K.Key.hash_of p.key) c.args.hash in
    let grp = child_group g.K.Key.hash_of at g.row.AT g.C.Level.LEVEL c.requires.stacked.1 (g.met.C.Level.at_most c.requires.stacked.0) c.requires.canonical c.digit_of-d.result c.digit_of-d.ensures.small (g.C.Level.shape (value_of c.index_mut-child.result.now)) (was_here g c) in
    let less : count_where t (pairs (g.C.Level.shape (value_of c.index_mut-child.result.now))) ≤ count_where t (pairs (branch at)) = subst (λ ps. count_where t ps ≤ count_where t (pairs (branch at))) grp (count-group-le g.K.Key.hash_of t g.row.AT c.digit_of-d.result (pairs (branch at))) in
    let few : length c.args.self.now.entries.items ≤ 32 = let r = rank-bound c.args.self.now.data 32 in omega (arith, r, c.requires.whole.0.entries) in
    path_more (g.K.Item.WEIGHT + g.V.Item.WEIGHT) (on_path g.K.Key.hash_of g.C.Level.LEVEL c.args.hash (pairs (g.C.Level.shape (value_of c.index_mut-child.result.now)))) (on_path g.K.Key.hash_of g.row.AT c.args.hash (pairs (branch at)) - length c.args.self.now.entries.items) c.args.h.now.copied c.put-answer.new.h.copied
    (omega (arith, less, few, c.requires.stacked.1, g.met.C.Level.at_most c.requires.stacked.0)) c.put-answer.ensures.path

pub returns-else-is_err-clause-old : goal.returns-else-is_err-clause-old
returns-else-is_err-clause-old g c =
    sym (get_free g.K.Key.hash_of _ _ _ c.requires.stacked.1 (g.met.C.Level.at_most c.requires.stacked.0) c.requires.canonical _ c.digit_of-d.result (c.digit_of-d.ensures.digit ∙ ap (λ x. digit x g.row.AT) c.requires.hash)
    (slots_free _ _ g.C.Level.shape _ _ _ _ _ (sym c.has.ensures ∙ c.if-has.false) (sym c.has-else-has.ensures ∙ c.if-has-2.false)))

pub returns-else-is_err-clause-new : goal.returns-else-is_err-clause-new
returns-else-is_err-clause-new g c =
    given_at_free g.K.Key.hash_of (slots_of g.K.Item.plain g.V.Item.plain g.C.Level.shape c.args.self.now.data c.args.self.now.nodes c.args.self.now.entries.items c.args.self.now.children.items) _ _ c.requires.stacked.1 (g.met.C.Level.at_most c.requires.stacked.0) c.requires.canonical (g.K.Item.plain c.args.key) (g.V.Item.plain c.args.value) c.digit_of-d.result
    (c.digit_of-d.ensures.digit ∙ ap (λ x. digit x g.row.AT) c.requires.hash) _
    (λ x ne. c.add.ensures.others x ne ∙ ap (λ ys. slots_of g.K.Item.plain g.V.Item.plain g.C.Level.shape c.args.self.now.data c.args.self.now.nodes ys c.args.self.now.children.items x) c.reserve.ensures.items)
    (slots_free _ _ g.C.Level.shape _ _ _ _ _ (sym c.has.ensures ∙ c.if-has.false) (sym c.has-else-has.ensures ∙ c.if-has-2.false))
    c.add.ensures.here
