use borrow.Author.Tests.{eqb-true, eq-eqb}
use Rattle.std.proofs.Common.{◌≡◌, List, length, map, sym, ap, subst, ◌∙◌, arith}
use Rattle.std.proofs.lemmas.List.{length-map}
use Rattle.cow_members.proofs.Ascents.{length-ascending}
use Rattle.cow_members.specs.Ascents.{Ascends}
use Rattle.cow_members.specs.Members.{MembersView}
use Rattle.cow_model.specs.Flat.{Flat}
use Rattle.cow_model.specs.Members.{ascending}
use Rattle.cow_model.specs.declared.plain.Literal.{Literal}
use Rattle.cow_members.proofs.Operations.{equal-by, equal-back}
use Rattle.cow_set.proofs.set.Set.equals.Goals as goal

pub returns-then-len : goal.returns-then-len
returns-then-len g c =
    let xs = map g.K.Item.plain c.get-members.result.now.keys.items in
    let ys = map g.K.Item.plain c.get-others.result.now.keys.items in
    let mine : ascending xs ≡ c.args.self.now.value = ap (λ (m : MembersView g.row.K.Denot). ascending (map g.K.Item.plain m.keys.items)) c.get-members.ensures ∙ ap (λ (f : Flat (List Literal)). f.value) c.self.view_is in
    let theirs : ascending ys ≡ c.args.other.now.value = ap (λ (m : MembersView g.row.K.Denot). ascending (map g.K.Item.plain m.keys.items)) c.get-others.ensures ∙ ap (λ (f : Flat (List Literal)). f.value) c.other.view_is in
    let s : Ascends (ascending xs) = subst (λ (m : MembersView g.row.K.Denot). Ascends (ascending (map g.K.Item.plain m.keys.items))) (sym c.get-members.ensures) c.self.invariant.0.apart in
    let t : Ascends (ascending ys) = subst (λ (m : MembersView g.row.K.Denot). Ascends (ascending (map g.K.Item.plain m.keys.items))) (sym c.get-others.ensures) c.other.invariant.0.apart in
    let same : length xs ≡ length ys = omega (arith, c.len.ensures.value, c.len-2.ensures.value, length-map c.get-members.result.now.keys.items g.K.Item.plain, length-map c.get-others.result.now.keys.items g.K.Item.plain) in
    (λ e. sym mine ∙ equal-by xs ys s t same (sym c.all_stay.ensures ∙ e) ∙ theirs, λ e. c.all_stay.ensures ∙ equal-back xs ys (mine ∙ e ∙ sym theirs))

pub returns-else-len : goal.returns-else-len
returns-else-len g c =
    let xs = map g.K.Item.plain c.get-members.result.now.keys.items in
    let ys = map g.K.Item.plain c.get-others.result.now.keys.items in
    let mine : ascending xs ≡ c.args.self.now.value = ap (λ (m : MembersView g.row.K.Denot). ascending (map g.K.Item.plain m.keys.items)) c.get-members.ensures ∙ ap (λ (f : Flat (List Literal)). f.value) c.self.view_is in
    let theirs : ascending ys ≡ c.args.other.now.value = ap (λ (m : MembersView g.row.K.Denot). ascending (map g.K.Item.plain m.keys.items)) c.get-others.ensures ∙ ap (λ (f : Flat (List Literal)). f.value) c.other.view_is in (
      λ e. absurd (omega (arith, eqb-true c.len.result c.len-2.result e)),
      λ e. eq-eqb c.len.result c.len-2.result (omega (
        arith,
        c.len.ensures.value,
        c.len-2.ensures.value,
        length-ascending xs,
        length-ascending ys,
        ap length (mine ∙ e ∙ sym theirs),
        length-map c.get-members.result.now.keys.items g.K.Item.plain,
        length-map c.get-others.result.now.keys.items g.K.Item.plain,
      )),
    )
