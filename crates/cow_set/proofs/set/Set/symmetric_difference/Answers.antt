use Rattle.std.proofs.Common.{[], ◌≡◌, ◌+◌, ◌*◌, ◌++◌, count_by, not, List, length, map, inl, inr, refl, sym, ap, subst, ◌∙◌, arith}
use Rattle.std.proofs.lemmas.Bool.{true≢false}
use Rattle.std.proofs.lemmas.Grind.{common_steps}
use Rattle.std.proofs.lemmas.List.{length-map}
use Rattle.std.proofs.lemmas.List.Sums.{count_by-le-length}
use Rattle.cow_members.proofs.Ascents.{length-ascending}
use Rattle.cow_members.specs.Members.{MembersView}
use Rattle.cow_model.specs.Flat.{Flat, copies}
use Rattle.cow_model.specs.Members.{ascending, in_order, member, symdiff}
use Rattle.cow_model.specs.Purse.{Moves}
use Rattle.cow_model.specs.declared.plain.Literal.{Literal}
use Rattle.cow_row.specs.Changes.{PaysWith}
use Rattle.cow_members.proofs.Costs.{paid-with}
use Rattle.cow_members.proofs.Keys.{empty-by}
use Rattle.cow_members.proofs.Operations.{lacking-ascending, set-toggled, toggled-none}
use Rattle.cow_set.proofs.set.Set.symmetric_difference.Goals as goal
use Rattle.cow_members.specs.Sets.{either, lacking}

pub toggle_all-requires-clause-room : goal.toggle_all-requires-clause-room
toggle_all-requires-clause-room g c =
    let xs = map g.K.Item.plain c.self.inside.cell.value.keys.items in
    let ys = map g.K.Item.plain c.get-others.result.now.keys.items in
    let mine : ascending xs ≡ c.args.self.now.value = ap (λ (f : Flat (List Literal)). f.value) c.self.view_is in
    let theirs : ascending ys ≡ c.args.other.now.value = ap (λ (m : MembersView g.row.K.Denot). ascending (map g.K.Item.plain m.keys.items)) c.get-others.ensures ∙ ap (λ (f : Flat (List Literal)). f.value) c.other.view_is in
    let extra : c.missing-extra.result ≡ lacking xs ys = c.missing-extra.ensures.value ∙ ap (λ (m : MembersView g.row.K.Denot). lacking (map g.K.Item.plain m.keys.items) ys) c.get-members.ensures in
    let same : map g.K.Item.plain c.only.result.now.keys.items ≡ xs = ap (λ (m : MembersView g.row.K.Denot). map g.K.Item.plain m.keys.items) c.only.ensures.value ∙ c.prepare.ensures.same in
    omega (
      arith,
      extra,
      ap (λ l. lacking l ys) same,
      ap length same,
      c.missing-extra.ensures.most,
      c.requires.growth,
      c.in_ok-prepare.ensures.room,
      ap length mine,
      ap length theirs,
      length-ascending xs,
      length-ascending ys,
      ap (λ (m : MembersView g.row.K.Denot). m.keys.capacity) c.only.ensures.value,
      length-map c.only.result.now.keys.items g.K.Item.plain,
      length-map c.self.inside.cell.value.keys.items g.K.Item.plain,
      length-map c.get-others.result.now.keys.items g.K.Item.plain,
    )

pub returns-then-is_empty-clause-ok : goal.returns-then-is_empty-clause-ok
returns-then-is_empty-clause-ok g c =
    let xs = map g.K.Item.plain c.self.inside.cell.value.keys.items in
    let ys = map g.K.Item.plain c.get-others.result.now.keys.items in
    let mine : ascending xs ≡ c.args.self.now.value = ap (λ (f : Flat (List Literal)). f.value) c.self.view_is in
    let theirs : ascending ys ≡ c.args.other.now.value = ap (λ (m : MembersView g.row.K.Denot). ascending (map g.K.Item.plain m.keys.items)) c.get-others.ensures ∙ ap (λ (f : Flat (List Literal)). f.value) c.other.view_is in
    let none : ys ≡ [] = ap (λ (l : List g.row.K.Denot). map g.K.Item.plain l) (c.is_empty.ensures.0 c.if-is_empty.true) in
    record { value = sym mine ∙ toggled-none xs c.self.invariant.0.apart ∙ ap (λ l. symdiff in_order (ascending xs) (ascending l)) (sym none) ∙ ap (λ l. symdiff in_order l (ascending ys)) mine ∙ ap (λ l. symdiff in_order c.args.self.now.value l) theirs; handle = inl refl }

pub returns-clause-ok : goal.returns-clause-ok
returns-clause-ok g c =
    let xs = map g.K.Item.plain c.self.inside.cell.value.keys.items in
    let ys = map g.K.Item.plain c.get-others.result.now.keys.items in
    let mine : ascending xs ≡ c.args.self.now.value = ap (λ (f : Flat (List Literal)). f.value) c.self.view_is in
    let theirs : ascending ys ≡ c.args.other.now.value = ap (λ (m : MembersView g.row.K.Denot). ascending (map g.K.Item.plain m.keys.items)) c.get-others.ensures ∙ ap (λ (f : Flat (List Literal)). f.value) c.other.view_is in
    let same : map g.K.Item.plain c.only.result.now.keys.items ≡ xs = ap (λ (m : MembersView g.row.K.Denot). map g.K.Item.plain m.keys.items) c.only.ensures.value ∙ c.prepare.ensures.same in
    let zs = map g.K.Item.plain c.toggle_all.new.members.keys.items in
    record {
      value = set-toggled xs ys zs c.self.invariant.0.apart c.toggle_all.ensures.sound.apart (λ q. c.toggle_all.ensures.same q ∙ ap (λ l. either (member q ys) (member q l)) same) ∙ ap (λ l. symdiff in_order l (ascending ys)) mine ∙ ap (λ l. symdiff in_order c.args.self.now.value l) theirs;
      handle = inr (grind (arith, common_steps));
    }

pub returns-clause-paid : goal.returns-clause-paid
returns-clause-paid g c =
    let xs = map g.K.Item.plain c.self.inside.cell.value.keys.items in
    let ys = map g.K.Item.plain c.get-others.result.now.keys.items in
    let theirs : ascending ys ≡ c.args.other.now.value = ap (λ (m : MembersView g.row.K.Denot). ascending (map g.K.Item.plain m.keys.items)) c.get-others.ensures ∙ ap (λ (f : Flat (List Literal)). f.value) c.other.view_is in
    let p = g.K.Item.is_counted in
    let w = g.K.Item.WEIGHT in
    let alone = c.self.inside.cell.alone in
    subst (λ (f : Flat (List Literal)). PaysWith p w f c.args.other.now.value c.args.h.now c.toggle_all.new.h) c.self.view_is
    (subst (λ (v : List Literal). Moves (count_by p (ascending xs ++ v)) (copies alone (w * length (ascending xs)) + w * length v) c.args.h.now c.toggle_all.new.h) theirs
    (paid-with g.K.Item.plain p w alone c.self.inside.cell.value.keys.items c.get-others.result.now.keys.items c.args.h.now c.prepare.new.h c.toggle_all.new.h c.prepare.ensures.moved c.toggle_all.ensures.moved))

pub returns-clause-absent : goal.returns-clause-absent
returns-clause-absent g c none =
    let ys = map g.K.Item.plain c.get-others.result.now.keys.items in
    let theirs : ascending ys ≡ c.args.other.now.value = ap (λ (m : MembersView g.row.K.Denot). ascending (map g.K.Item.plain m.keys.items)) c.get-others.ensures ∙ ap (λ (f : Flat (List Literal)). f.value) c.other.view_is in
    absurd (true≢false (sym (c.is_empty.ensures.1 (empty-by g.K.Item.plain c.get-others.result.now.keys.items (theirs ∙ none))) ∙ c.if-is_empty.false))

pub returns-in_err-prepare-clause-absent : goal.returns-in_err-prepare-clause-absent
returns-in_err-prepare-clause-absent g c none =
    let ys = map g.K.Item.plain c.get-others.result.now.keys.items in
    let theirs : ascending ys ≡ c.args.other.now.value = ap (λ (m : MembersView g.row.K.Denot). ascending (map g.K.Item.plain m.keys.items)) c.get-others.ensures ∙ ap (λ (f : Flat (List Literal)). f.value) c.other.view_is in
    absurd (true≢false (sym (c.is_empty.ensures.1 (empty-by g.K.Item.plain c.get-others.result.now.keys.items (theirs ∙ none))) ∙ c.if-is_empty.false))

pub toggle_all-requires-clause-spare : goal.toggle_all-requires-clause-spare
toggle_all-requires-clause-spare g c =
    let xs = map g.K.Item.plain c.self.inside.cell.value.keys.items in
    let ys = map g.K.Item.plain c.get-others.result.now.keys.items in
    let mine : ascending xs ≡ c.args.self.now.value = ap (λ (f : Flat (List Literal)). f.value) c.self.view_is in
    let theirs : ascending ys ≡ c.args.other.now.value = ap (λ (m : MembersView g.row.K.Denot). ascending (map g.K.Item.plain m.keys.items)) c.get-others.ensures ∙ ap (λ (f : Flat (List Literal)). f.value) c.other.view_is in
    omega (
      arith,
      c.prepare.ensures.moved.falls,
      count_by-le-length g.K.Item.is_counted xs,
      c.requires.spare,
      ap length mine,
      ap length theirs,
      length-ascending xs,
      length-ascending ys,
      length-map c.self.inside.cell.value.keys.items g.K.Item.plain,
      length-map c.get-others.result.now.keys.items g.K.Item.plain,
    )

pub invariant_of-self-2 : goal.invariant_of-self-2
invariant_of-self-2 g c =
    let xs = map g.K.Item.plain c.self.inside.cell.value.keys.items in
    let ys = map g.K.Item.plain c.get-others.result.now.keys.items in
    let mine : ascending xs ≡ c.args.self.now.value = ap (λ (f : Flat (List Literal)). f.value) c.self.view_is in
    let theirs : ascending ys ≡ c.args.other.now.value = ap (λ (m : MembersView g.row.K.Denot). ascending (map g.K.Item.plain m.keys.items)) c.get-others.ensures ∙ ap (λ (f : Flat (List Literal)). f.value) c.other.view_is in
    let same : map g.K.Item.plain c.only.result.now.keys.items ≡ xs = ap (λ (m : MembersView g.row.K.Denot). map g.K.Item.plain m.keys.items) c.only.ensures.value ∙ c.prepare.ensures.same in (
      c.toggle_all.ensures.sound,
      omega (
        arith,
        c.toggle_all.ensures.count,
        count_by-le-length (λ a. not (member a xs)) ys,
        ap (λ l. lacking l ys) same,
        c.requires.growth,
        ap length mine,
        ap length theirs,
        length-ascending xs,
        length-ascending ys,
        ap length same,
        length-map c.only.result.now.keys.items g.K.Item.plain,
        length-map c.self.inside.cell.value.keys.items g.K.Item.plain,
        length-map c.get-others.result.now.keys.items g.K.Item.plain,
      ),
    )

pub returns-in_err-prepare-clause-within : goal.returns-in_err-prepare-clause-within
returns-in_err-prepare-clause-within g c has =
    let xs = map g.K.Item.plain c.self.inside.cell.value.keys.items in
    let ys = map g.K.Item.plain c.get-others.result.now.keys.items in
    let mine : ascending xs ≡ c.args.self.now.value = ap (λ (f : Flat (List Literal)). f.value) c.self.view_is in
    let theirs : ascending ys ≡ c.args.other.now.value = ap (λ (m : MembersView g.row.K.Denot). ascending (map g.K.Item.plain m.keys.items)) c.get-others.ensures ∙ ap (λ (f : Flat (List Literal)). f.value) c.other.view_is in
    let extra : c.missing-extra.result ≡ lacking xs ys = c.missing-extra.ensures.value ∙ ap (λ (m : MembersView g.row.K.Denot). lacking (map g.K.Item.plain m.keys.items) ys) c.get-members.ensures in
    let come = sym (lacking-ascending xs ys) ∙ ap (λ l. lacking l (ascending ys)) mine ∙ ap (λ l. lacking c.args.self.now.value l) theirs in
    let room = ap (λ (f : Flat (List Literal)). f.room) c.self.view_is in
    let bad = c.in_err-prepare.ensures.in_place (ap (λ (f : Flat (List Literal)). f.alone) c.self.view_is ∙ has.alone) (omega (arith, has.room, room, come, extra, c.self.invariant.0.indexed.fits)) in
    absurd (true≢false (sym bad.0))
