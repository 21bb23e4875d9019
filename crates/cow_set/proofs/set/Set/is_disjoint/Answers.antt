use Rattle.std.proofs.Common.{◌≡◌, List, map, ap, ◌∙◌}
use Rattle.cow_members.specs.Members.{MembersView}
use Rattle.cow_model.specs.Flat.{Flat}
use Rattle.cow_model.specs.Members.{ascending, disjoint}
use Rattle.cow_model.specs.declared.plain.Literal.{Literal}
use Rattle.cow_members.proofs.Operations.{disjoint-is, disjoint-turned}
use Rattle.cow_set.proofs.set.Set.is_disjoint.Goals as goal

pub returns-then-len : goal.returns-then-len
returns-then-len g c =
    let xs = map g.K.Item.plain c.get-members.result.now.keys.items in
    let ys = map g.K.Item.plain c.get-others.result.now.keys.items in
    let mine : ascending xs ≡ c.args.self.now.value = ap (λ (m : MembersView g.row.K.Denot). ascending (map g.K.Item.plain m.keys.items)) c.get-members.ensures ∙ ap (λ (f : Flat (List Literal)). f.value) c.self.view_is in
    let theirs : ascending ys ≡ c.args.other.now.value = ap (λ (m : MembersView g.row.K.Denot). ascending (map g.K.Item.plain m.keys.items)) c.get-others.ensures ∙ ap (λ (f : Flat (List Literal)). f.value) c.other.view_is in
    c.all_stay.ensures ∙ disjoint-is xs ys ∙ ap (λ l. disjoint l (ascending ys)) mine ∙ ap (λ l. disjoint c.args.self.now.value l) theirs

pub returns-else-len : goal.returns-else-len
returns-else-len g c =
    let xs = map g.K.Item.plain c.get-members.result.now.keys.items in
    let ys = map g.K.Item.plain c.get-others.result.now.keys.items in
    let mine : ascending xs ≡ c.args.self.now.value = ap (λ (m : MembersView g.row.K.Denot). ascending (map g.K.Item.plain m.keys.items)) c.get-members.ensures ∙ ap (λ (f : Flat (List Literal)). f.value) c.self.view_is in
    let theirs : ascending ys ≡ c.args.other.now.value = ap (λ (m : MembersView g.row.K.Denot). ascending (map g.K.Item.plain m.keys.items)) c.get-others.ensures ∙ ap (λ (f : Flat (List Literal)). f.value) c.other.view_is in
    c.all_stay-else-len.ensures ∙ disjoint-turned xs ys ∙ ap (λ l. disjoint l (ascending ys)) mine ∙ ap (λ l. disjoint c.args.self.now.value l) theirs
