use Rattle.std.proofs.Common.{[], ◌≡◌, ◌+◌, ◌*◌, ◌++◌, count_by, List, length, map, inl, inr, refl, sym, ap, subst, ◌∙◌, arith}
use Rattle.std.proofs.lemmas.Bool.{true≢false}
use Rattle.std.proofs.lemmas.Grind.{common_steps}
use Rattle.std.proofs.lemmas.List.{length-map}
use Rattle.std.proofs.lemmas.List.Sums.{count_by-le-length}
use Rattle.cow_members.specs.Members.{MembersView}
use Rattle.cow_members.specs.Sets.{lacking}
use Rattle.cow_members.proofs.Listed.{toggled-nothing}
use Rattle.cow_members.proofs.Operations.{union-most}
use Rattle.cow_model.specs.Flat.{Flat, copies}
use Rattle.cow_model.specs.Members.{last, symdiff, union}
use Rattle.cow_model.specs.Purse.{Moves}
use Rattle.cow_model.specs.declared.plain.Literal.{Literal}
use Rattle.cow_row.specs.Changes.{PaysWith}
use Rattle.cow_ordered.proofs.Costs.{paid-with}
use Rattle.cow_ordered.proofs.set.OrderedSet.symmetric_difference.Goals as goal

pub toggle_all-requires-clause-room : goal.toggle_all-requires-clause-room
toggle_all-requires-clause-room g c =
    let xs = map g.K.Item.plain c.self.inside.cell.value.keys.items in
    let ys = map g.K.Item.plain c.get-others.result.now.keys.items in
    let extra : c.missing-extra.result ≡ lacking xs ys = c.missing-extra.ensures.value ∙ ap (λ (m : MembersView g.row.K.Denot). lacking (map g.K.Item.plain m.keys.items) ys) c.get-members.ensures in
    let same : map g.K.Item.plain c.only.result.now.keys.items ≡ xs = ap (λ (m : MembersView g.row.K.Denot). map g.K.Item.plain m.keys.items) c.only.ensures.value ∙ c.prepare.ensures.same in
    omega (
      arith,
      union-most xs ys,
      extra,
      ap (λ l. length (union last l ys)) same,
      c.in_ok-prepare.ensures.room,
      length-map c.self.inside.cell.value.keys.items g.K.Item.plain,
      ap (λ (m : MembersView g.row.K.Denot). m.keys.capacity) c.only.ensures.value,
    )

pub toggle_all-requires-clause-small : goal.toggle_all-requires-clause-small
toggle_all-requires-clause-small g c =
    let xs = map g.K.Item.plain c.self.inside.cell.value.keys.items in
    let ys = map g.K.Item.plain c.get-others.result.now.keys.items in
    let mine : xs ≡ c.args.self.now.value = ap (λ (f : Flat (List Literal)). f.value) c.self.view_is in
    let theirs : ys ≡ c.args.other.now.value = ap (λ (m : MembersView g.row.K.Denot). map g.K.Item.plain m.keys.items) c.get-others.ensures ∙ ap (λ (f : Flat (List Literal)). f.value) c.other.view_is in
    let extra : c.missing-extra.result ≡ lacking xs ys = c.missing-extra.ensures.value ∙ ap (λ (m : MembersView g.row.K.Denot). lacking (map g.K.Item.plain m.keys.items) ys) c.get-members.ensures in
    let same : map g.K.Item.plain c.only.result.now.keys.items ≡ xs = ap (λ (m : MembersView g.row.K.Denot). map g.K.Item.plain m.keys.items) c.only.ensures.value ∙ c.prepare.ensures.same in
    omega (
      arith,
      union-most xs ys,
      extra,
      ap (λ l. length (union last l ys)) same,
      c.missing-extra.ensures.most,
      c.requires.growth,
      ap length mine,
      ap length theirs,
      length-map c.self.inside.cell.value.keys.items g.K.Item.plain,
      length-map c.get-others.result.now.keys.items g.K.Item.plain,
    )

pub toggle_all-requires-clause-spare : goal.toggle_all-requires-clause-spare
toggle_all-requires-clause-spare g c =
    let xs = map g.K.Item.plain c.self.inside.cell.value.keys.items in
    let ys = map g.K.Item.plain c.get-others.result.now.keys.items in
    let mine : xs ≡ c.args.self.now.value = ap (λ (f : Flat (List Literal)). f.value) c.self.view_is in
    let theirs : ys ≡ c.args.other.now.value = ap (λ (m : MembersView g.row.K.Denot). map g.K.Item.plain m.keys.items) c.get-others.ensures ∙ ap (λ (f : Flat (List Literal)). f.value) c.other.view_is in
    omega (
      arith,
      c.prepare.ensures.moved.falls,
      count_by-le-length g.K.Item.is_counted xs,
      c.requires.spare,
      ap length mine,
      ap length theirs,
      length-map c.self.inside.cell.value.keys.items g.K.Item.plain,
      length-map c.get-others.result.now.keys.items g.K.Item.plain,
    )

pub returns-in_err-prepare-clause-within : goal.returns-in_err-prepare-clause-within
returns-in_err-prepare-clause-within g c has =
    let xs = map g.K.Item.plain c.self.inside.cell.value.keys.items in
    let ys = map g.K.Item.plain c.get-others.result.now.keys.items in
    let mine : xs ≡ c.args.self.now.value = ap (λ (f : Flat (List Literal)). f.value) c.self.view_is in
    let theirs : ys ≡ c.args.other.now.value = ap (λ (m : MembersView g.row.K.Denot). map g.K.Item.plain m.keys.items) c.get-others.ensures ∙ ap (λ (f : Flat (List Literal)). f.value) c.other.view_is in
    let extra : c.missing-extra.result ≡ lacking xs ys = c.missing-extra.ensures.value ∙ ap (λ (m : MembersView g.row.K.Denot). lacking (map g.K.Item.plain m.keys.items) ys) c.get-members.ensures in
    let come = ap (λ l. lacking l ys) mine ∙ ap (λ l. lacking c.args.self.now.value l) theirs in
    let room = ap (λ (f : Flat (List Literal)). f.room) c.self.view_is in
    let bad = c.in_err-prepare.ensures.in_place (ap (λ (f : Flat (List Literal)). f.alone) c.self.view_is ∙ has.alone) (omega (arith, has.room, room, come, extra, c.self.invariant.0.indexed.fits)) in
    absurd (true≢false (sym bad.0))

pub returns-then-is_empty-clause-ok : goal.returns-then-is_empty-clause-ok
returns-then-is_empty-clause-ok g c =
    let ys = map g.K.Item.plain c.get-others.result.now.keys.items in
    let theirs : ys ≡ c.args.other.now.value = ap (λ (m : MembersView g.row.K.Denot). map g.K.Item.plain m.keys.items) c.get-others.ensures ∙ ap (λ (f : Flat (List Literal)). f.value) c.other.view_is in
    let none : c.args.other.now.value ≡ [] = sym theirs ∙ ap (λ (l : List g.row.K.Denot). map g.K.Item.plain l) (c.is_empty.ensures.0 c.if-is_empty.true) in
    record { value = toggled-nothing c.args.self.now.value ∙ ap (λ l. symdiff last c.args.self.now.value l) (sym none); handle = inl refl }

pub returns-clause-ok : goal.returns-clause-ok
returns-clause-ok g c =
    let xs = map g.K.Item.plain c.self.inside.cell.value.keys.items in
    let ys = map g.K.Item.plain c.get-others.result.now.keys.items in
    let mine : xs ≡ c.args.self.now.value = ap (λ (f : Flat (List Literal)). f.value) c.self.view_is in
    let theirs : ys ≡ c.args.other.now.value = ap (λ (m : MembersView g.row.K.Denot). map g.K.Item.plain m.keys.items) c.get-others.ensures ∙ ap (λ (f : Flat (List Literal)). f.value) c.other.view_is in
    let same : map g.K.Item.plain c.only.result.now.keys.items ≡ xs = ap (λ (m : MembersView g.row.K.Denot). map g.K.Item.plain m.keys.items) c.only.ensures.value ∙ c.prepare.ensures.same in
    record {
      value = c.toggle_all.ensures.same ∙ ap (λ l. symdiff last l ys) same ∙ ap (λ l. symdiff last l ys) mine ∙ ap (λ l. symdiff last c.args.self.now.value l) theirs;
      handle = inr (grind (arith, common_steps));
    }

pub returns-clause-paid : goal.returns-clause-paid
returns-clause-paid g c =
    let xs = map g.K.Item.plain c.self.inside.cell.value.keys.items in
    let ys = map g.K.Item.plain c.get-others.result.now.keys.items in
    let theirs : ys ≡ c.args.other.now.value = ap (λ (m : MembersView g.row.K.Denot). map g.K.Item.plain m.keys.items) c.get-others.ensures ∙ ap (λ (f : Flat (List Literal)). f.value) c.other.view_is in
    let same : map g.K.Item.plain c.only.result.now.keys.items ≡ xs = ap (λ (m : MembersView g.row.K.Denot). map g.K.Item.plain m.keys.items) c.only.ensures.value ∙ c.prepare.ensures.same in
    let p = g.K.Item.is_counted in
    let w = g.K.Item.WEIGHT in
    let alone = c.self.inside.cell.alone in
    subst (λ (f : Flat (List Literal)). PaysWith p w f c.args.other.now.value c.args.h.now c.toggle_all.new.h) c.self.view_is
    (subst (λ (v : List Literal). Moves (count_by p (xs ++ v)) (copies alone (w * length xs) + w * length v) c.args.h.now c.toggle_all.new.h) theirs
    (paid-with g.K.Item.plain p w alone c.self.inside.cell.value.keys.items c.get-others.result.now.keys.items c.args.h.now c.prepare.new.h c.toggle_all.new.h c.prepare.ensures.moved c.prepare.ensures.no_gain
    c.toggle_all.ensures.falls (omega (arith, c.toggle_all.ensures.rises, ap (λ l. count_by p l) same)) c.toggle_all.ensures.copied c.toggle_all.ensures.kept))
