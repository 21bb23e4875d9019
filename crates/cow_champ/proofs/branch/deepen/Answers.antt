-- The entry leaves its row, and the child stands in the other.
use Rattle.std.proofs.Common.{◌≡◌, ◌≢◌, ◌∙◌, ℕ, ◌+◌, ◌<◌, ◌≤◌, List, [], ◌∷◌, map, length, get_or, Some, None, Ok, Err, true, false, cond, eqb, arith, sym, ap, refl, subst, All, ne_eqb, eq-eqb}
use Rattle.std.specs.List.{slice_get, insert, remove}
use Rattle.std.specs.Int.{bit_at}
use Rattle.std.proofs.lemmas.Option.{slice_get-get_or}
use Rattle.std.proofs.lemmas.List.{length-map}
use Rattle.std.proofs.lemmas.List.Edits.{length-insert, length-remove}
use Rattle.cow_model.specs.declared.plain.Literal.{Literal}
use Rattle.cow_model.specs.declared.value.Pair.{Pair}
use Rattle.cow_model.specs.Canon.{is_one, Tree, branch, child, entry, digit, get, pairs, canon, given}
use Rattle.cow_model.proofs.CanonSlots.{get_entry, given_at_two}
use Rattle.cow_champ.specs.Node.{value_of, pair_of, slots_of, BothSettled, IsWholeChild}
use Rattle.cow_model.specs.Slots.{rank, Fits}
use Rattle.cow_model.proofs.CanonRanks.{rank-lt, rank-le}
use Rattle.cow_champ.proofs.RowSlots.{slots_entry}
use Rattle.cow_champ.proofs.Changes.{pushed, slots_deepened_here, slots_deepened_others, Fits-deepen, All-insert, All-remove, insert-remove, map-insert, map-remove}
use Rattle.cow_champ.proofs.branch.deepen.Goals as goal
use Rattle.cow_champ.proofs.branch.deepen.Given.{Over}

pub remove-old_key-requires : goal.remove-old_key-requires
remove-old_key-requires g c =
    let a = rank-lt c.args.n.now.data c.args.d 32 c.requires.here c.requires.small in
    omega (arith, a, c.requires.whole.0.entries, c.place-i.ensures, c.args.n.now.entries.ok.0)

pub pair-requires-clause-differ : goal.pair-requires-clause-differ
pair-requires-clause-differ g c =
    let a = rank-lt c.args.n.now.data c.args.d 32 c.requires.here c.requires.small in
    let l : c.place-i.result < length c.args.n.now.entries.items = omega (arith, a, c.requires.whole.0.entries, c.place-i.ensures) in
    c.requires.other c.remove-old_key.result
    (rw (← c.place-i.ensures) (slice_get-get_or c.args.n.now.entries.items c.place-i.result c.remove-old_key.result l ∙ ap Some (sym c.remove-old_key.ensures.value)))

pub insert-requires : goal.insert-requires
insert-requires g c =
    let a = rank-le c.args.n.now.nodes c.args.d 32 (let l = c.requires.small in omega (arith, l)) in
    omega (arith, a, c.requires.whole.0.children, c.place-j.ensures, c.reserve.ensures.len, c.args.n.now.children.ok.0)

module _ (g : Over) (c : goal.After-n-in-Ok-1 g) where
  in_i : c.place-i.result < length c.args.n.now.entries.items
  in_i = let a = rank-lt c.args.n.now.data c.args.d 32 c.requires.here c.requires.small in omega (arith, a, c.requires.whole.0.entries, c.place-i.ensures)

  in_j : c.place-j.result ≤ length c.args.n.now.children.items
  in_j = let a = rank-le c.args.n.now.nodes c.args.d 32 (let l = c.requires.small in omega (arith, l)) in omega (arith, a, c.requires.whole.0.children, c.place-j.ensures)

  no_child : bit_at c.args.n.now.nodes c.args.d ≡ 0
  no_child = let a = c.requires.whole.0.apart c.args.d in omega (arith, a, c.requires.here)

  children_are : c.insert.new.self.items ≡ insert c.args.n.now.children.items c.place-j.result c.settle.new.self
  children_are = rw (← c.reserve.ensures.items) (pushed _ _ _ _ (sym c.is_err-in-Ok.ensures.value ∙ c.if-is_err-2.false) c.insert.ensures.items)

  differ : is_one (g.K.Item.plain c.remove-old_key.result.key) (g.K.Item.plain c.args.key) ≡ false
  differ =
      let l = in_i in
      c.requires.other c.remove-old_key.result
      (rw (← c.place-i.ensures) (slice_get-get_or c.args.n.now.entries.items c.place-i.result c.remove-old_key.result l ∙ ap Some (sym c.remove-old_key.ensures.value)))

pub returns-else-is_err-2-clause-whole : goal.returns-else-is_err-2-clause-whole
returns-else-is_err-2-clause-whole g c =
    let es = c.args.n.now.entries.items in
    let cs = c.args.n.now.children.items in
    let i = c.place-i.result in
    let j = c.place-j.result in
    let a : length (remove c.args.n.now.entries.items c.place-i.result) + 1 ≡ length c.args.n.now.entries.items = length-remove c.args.n.now.entries.items c.place-i.result (in_i g c) in
    let w : g.C.Level.IsWhole (value_of c.settle.new.self) = subst g.C.Level.IsWhole (sym (ap (λ x. x.value) c.settle.ensures)) c.in-Ok.ensures.whole in
    rw (c.remove-old_key.ensures.items, children_are g c) (
      rw (length-insert c.args.n.now.children.items c.place-j.result c.settle.new.self (in_j g c))
          (Fits-deepen c.args.n.now.data c.args.n.now.nodes c.without_member-n.result c.with_member-n.result c.args.d _ _ (rw a c.requires.whole.0) c.requires.small c.requires.here c.without_member-n.ensures.same c.without_member-n.ensures.others (no_child g c) c.with_member-n.ensures.same c.with_member-n.ensures.others),
      All-remove (BothSettled g.K.Item.IsSettled g.V.Item.IsSettled) c.args.n.now.entries.items c.place-i.result c.requires.whole.1,
      All-insert (IsWholeChild g.C.Level.IsWhole) c.args.n.now.children.items c.place-j.result c.settle.new.self c.requires.whole.2 (ap (λ x. x.alone) c.settle.ensures, w),
    )

pub returns-else-is_err-2-clause-old : goal.returns-else-is_err-2-clause-old
returns-else-is_err-2-clause-old g c =
    sym (get_entry g.K.Key.hash_of _ _ _ c.requires.stacked.1 (g.met.C.Level.at_most c.requires.stacked.0) c.requires.canonical _ c.args.d
    (c.requires.digit ∙ ap (λ x. digit x g.row.AT) c.requires.hash) _
    (slots_entry _ _ g.C.Level.shape _ _ _ _ _ (eq-eqb _ 1 c.requires.here) _ c.place-i.ensures (in_i g c) _ c.remove-old_key.ensures.value)
    ∙ rw (differ g c) refl)

pub returns-else-is_err-2-clause-new : goal.returns-else-is_err-2-clause-new
returns-else-is_err-2-clause-new g c =
    rw (c.remove-old_key.ensures.items, children_are g c)
    (given_at_two g.K.Key.hash_of _ _ _ c.requires.stacked.1 (g.met.C.Level.at_most c.requires.stacked.0) c.requires.canonical (g.K.Item.plain c.args.key) (g.V.Item.plain c.args.value) c.args.d
    (c.requires.digit ∙ ap (λ x. digit x g.row.AT) c.requires.hash) _
    (slots_deepened_others _ _ g.C.Level.shape _ _ _ _ _ _ _ c.requires.here c.without_member-n.ensures.same c.without_member-n.ensures.others (no_child g c) c.with_member-n.ensures.same c.with_member-n.ensures.others _ _ c.place-i.ensures c.place-j.ensures (in_i g c) (in_j g c) c.settle.new.self)
    _
    (slots_entry _ _ g.C.Level.shape _ _ _ _ _ (eq-eqb _ 1 c.requires.here) _ c.place-i.ensures (in_i g c) _ c.remove-old_key.ensures.value)
    (differ g c)
    (g.C.Level.shape (value_of c.settle.new.self))
    (ap g.C.Level.shape (ap (λ x. x.value) c.settle.ensures) ∙ c.in-Ok.ensures.shape)
    (slots_deepened_here _ _ g.C.Level.shape _ _ _ _ _ _ _ c.requires.here c.without_member-n.ensures.same c.without_member-n.ensures.others (no_child g c) c.with_member-n.ensures.same c.with_member-n.ensures.others _ _ c.place-i.ensures c.place-j.ensures (in_i g c) (in_j g c) c.settle.new.self))

pub returns-else-is_err-3-clause-whole : goal.returns-else-is_err-3-clause-whole
returns-else-is_err-3-clause-whole g c =
    let a = rank-lt c.args.n.now.data c.args.d 32 c.requires.here c.requires.small in
    let l : c.place-i.result < length c.args.n.now.entries.items = omega (arith, a, c.requires.whole.0.entries, c.place-i.ensures) in
    let back = pushed _ _ _ _ (sym c.is_err-in-Err.ensures.value ∙ c.if-is_err-3.false) c.insert-in-Err.ensures.items in
    let t = c.in-Err.ensures.handed_back.1 in
    let items : c.insert-in-Err.new.self.items ≡ c.args.n.now.entries.items =
    back ∙ ap (λ ys. insert ys c.place-i.result (record { key = c.in-Err.two.1; value = c.in-Err.two.2 })) c.remove-old_key.ensures.items
    ∙ ap (λ x. insert (remove c.args.n.now.entries.items c.place-i.result) c.place-i.result (record { key = x.1; value = x.2 })) t
    ∙ insert-remove c.args.n.now.entries.items c.place-i.result c.remove-old_key.result l c.remove-old_key.ensures.value in
    rw (items, c.reserve.ensures.items) c.requires.whole
