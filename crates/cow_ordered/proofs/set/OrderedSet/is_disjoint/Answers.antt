use Rattle.std.proofs.Common.{◌≡◌, List, map, ap, ◌∙◌}
use Rattle.cow_members.specs.Members.{MembersView}
use Rattle.cow_members.proofs.Ascents.{apart-alike}
use Rattle.cow_model.specs.Flat.{Flat}
use Rattle.cow_model.specs.Members.{disjoint}
use Rattle.cow_model.specs.declared.plain.Literal.{Literal}
use Rattle.cow_ordered.proofs.set.OrderedSet.is_disjoint.Goals as goal

pub returns-then-len : goal.returns-then-len
returns-then-len g c =
    let xs = map g.K.Item.plain c.get-members.result.now.keys.items in
    let ys = map g.K.Item.plain c.get-others.result.now.keys.items in
    let mine : xs ≡ c.args.self.now.value = ap (λ (m : MembersView g.row.K.Denot). map g.K.Item.plain m.keys.items) c.get-members.ensures ∙ ap (λ (f : Flat (List Literal)). f.value) c.self.view_is in
    let theirs : ys ≡ c.args.other.now.value = ap (λ (m : MembersView g.row.K.Denot). map g.K.Item.plain m.keys.items) c.get-others.ensures ∙ ap (λ (f : Flat (List Literal)). f.value) c.other.view_is in
    c.all_stay.ensures ∙ ap (λ l. disjoint l ys) mine ∙ ap (λ l. disjoint c.args.self.now.value l) theirs

pub returns-else-len : goal.returns-else-len
returns-else-len g c =
    let xs = map g.K.Item.plain c.get-members.result.now.keys.items in
    let ys = map g.K.Item.plain c.get-others.result.now.keys.items in
    let mine : xs ≡ c.args.self.now.value = ap (λ (m : MembersView g.row.K.Denot). map g.K.Item.plain m.keys.items) c.get-members.ensures ∙ ap (λ (f : Flat (List Literal)). f.value) c.self.view_is in
    let theirs : ys ≡ c.args.other.now.value = ap (λ (m : MembersView g.row.K.Denot). map g.K.Item.plain m.keys.items) c.get-others.ensures ∙ ap (λ (f : Flat (List Literal)). f.value) c.other.view_is in
    c.all_stay-else-len.ensures ∙ apart-alike ys xs ∙ ap (λ l. disjoint l ys) mine ∙ ap (λ l. disjoint c.args.self.now.value l) theirs
