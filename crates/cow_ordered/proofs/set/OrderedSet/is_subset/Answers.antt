use borrow.Author.Tests.{lt-leb}
use Rattle.std.proofs.Common.{◌≡◌, List, map, sym, ap, subst, ◌∙◌, arith}
use Rattle.std.proofs.lemmas.List.{length-map}
use Rattle.cow_members.specs.Ascents.{Ascends}
use Rattle.cow_members.specs.Members.{MembersView}
use Rattle.cow_members.proofs.Operations.{subset-is, subset-long}
use Rattle.cow_model.specs.Flat.{Flat}
use Rattle.cow_model.specs.Members.{ascending, subset}
use Rattle.cow_model.specs.declared.plain.Literal.{Literal}
use Rattle.cow_ordered.proofs.set.OrderedSet.is_subset.Goals as goal

pub returns-then-len : goal.returns-then-len
returns-then-len g c =
    let xs = map g.K.Item.plain c.get-members.result.now.keys.items in
    let ys = map g.K.Item.plain c.get-others.result.now.keys.items in
    let mine : xs ≡ c.args.self.now.value = ap (λ (m : MembersView g.row.K.Denot). map g.K.Item.plain m.keys.items) c.get-members.ensures ∙ ap (λ (f : Flat (List Literal)). f.value) c.self.view_is in
    let theirs : ys ≡ c.args.other.now.value = ap (λ (m : MembersView g.row.K.Denot). map g.K.Item.plain m.keys.items) c.get-others.ensures ∙ ap (λ (f : Flat (List Literal)). f.value) c.other.view_is in
    c.all_stay.ensures ∙ ap (λ l. subset l ys) mine ∙ ap (λ l. subset c.args.self.now.value l) theirs

pub returns-else-len : goal.returns-else-len
returns-else-len g c =
    let xs = map g.K.Item.plain c.get-members.result.now.keys.items in
    let ys = map g.K.Item.plain c.get-others.result.now.keys.items in
    let mine : xs ≡ c.args.self.now.value = ap (λ (m : MembersView g.row.K.Denot). map g.K.Item.plain m.keys.items) c.get-members.ensures ∙ ap (λ (f : Flat (List Literal)). f.value) c.self.view_is in
    let theirs : ys ≡ c.args.other.now.value = ap (λ (m : MembersView g.row.K.Denot). map g.K.Item.plain m.keys.items) c.get-others.ensures ∙ ap (λ (f : Flat (List Literal)). f.value) c.other.view_is in
    let s : Ascends (ascending xs) = subst (λ (m : MembersView g.row.K.Denot). Ascends (ascending (map g.K.Item.plain m.keys.items))) (sym c.get-members.ensures) c.self.invariant.0.apart in
    let t : Ascends (ascending ys) = subst (λ (m : MembersView g.row.K.Denot). Ascends (ascending (map g.K.Item.plain m.keys.items))) (sym c.get-others.ensures) c.other.invariant.0.apart in
    lt-leb c.len.result c.len-2.result (omega arith)
    ∙ subset-long xs ys s t (omega (arith, c.len.ensures.value, c.len-2.ensures.value, length-map c.get-members.result.now.keys.items g.K.Item.plain, length-map c.get-others.result.now.keys.items g.K.Item.plain))
    ∙ sym (subset-is xs ys) ∙ ap (λ l. subset l ys) mine ∙ ap (λ l. subset c.args.self.now.value l) theirs
