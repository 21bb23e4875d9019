use Rattle.std.proofs.Common.{◌≡◌, List, map, slice_get, Some, sym, ap, subst, ◌∙◌}
use Rattle.cow_members.specs.Members.{MembersView, HasAt}
use Rattle.cow_members.proofs.Keys.{found-there, plain-at}
use Rattle.cow_members.proofs.Sets.{has-alike}
use Rattle.cow_model.specs.Flat.{Flat}
use Rattle.cow_model.specs.Members.{member}
use Rattle.cow_model.specs.declared.plain.Literal.{Literal}
use Rattle.cow_ordered.proofs.set.OrderedSet.update.Goals as goal

pub replace-requires-clause-same : goal.replace-requires-clause-same
replace-requires-clause-same g c =
    let a = g.K.Item.plain c.args.k in
    let there = subst (λ (m : MembersView g.row.K.Denot). HasAt g.K.Item.plain m a c.in-Some.i) c.get.ensures c.in-Some.ensures.found in
    let now = has-alike g.K.Item.plain c.self.inside.cell.value.keys.items c.prepare.new.cell.value.keys.items a c.in-Some.i c.prepare.ensures.same there in
    subst (λ (m : MembersView g.row.K.Denot). HasAt g.K.Item.plain m a c.in-Some.i) (sym c.only.ensures.value) now

pub returns-in_default-clause-old : goal.returns-in_default-clause-old
returns-in_default-clause-old g c =
    let a = g.K.Item.plain c.args.k in
    let there = subst (λ (m : MembersView g.row.K.Denot). HasAt g.K.Item.plain m a c.in-Some.i) c.get.ensures c.in-Some.ensures.found in
    let now = has-alike g.K.Item.plain c.self.inside.cell.value.keys.items c.prepare.new.cell.value.keys.items a c.in-Some.i c.prepare.ensures.same there in
    let member_is = sym (ap (λ (f : Flat (List Literal)). member a f.value) c.self.view_is)
    ∙ ap (λ (m : MembersView g.row.K.Denot). member a (map g.K.Item.plain m.keys.items)) (sym c.get.ensures) ∙ c.in-Some.ensures.there in
    found-there a (g.K.Item.plain c.replace.result) c.args.self.now.value member_is
    (plain-at g.K.Item.plain c.prepare.new.cell.value.keys.items c.in-Some.i c.replace.result a
    (subst (λ (m : MembersView g.row.K.Denot). slice_get m.keys.items c.in-Some.i ≡ Some c.replace.result) c.only.ensures.value c.replace.ensures.value) now)
