use Rattle.std.proofs.Common.{◌≡◌, List, map, remove, slice_get, Some, inl, inr, refl, sym, ap, subst, ◌∙◌, arith}
use Rattle.std.proofs.lemmas.Grind.{common_steps}
use Rattle.std.proofs.lemmas.Option.{slice_get-map}
use Rattle.cow_members.specs.Members.{MembersView, HasAt}
use Rattle.cow_members.specs.Sets.{without}
use Rattle.cow_members.proofs.Keys.{found-there, plain-at, without-none}
use Rattle.cow_members.proofs.Listed.{distinct-by, map-remove, remove-without}
use Rattle.cow_members.proofs.Sets.{has-alike}
use Rattle.cow_model.specs.Flat.{Flat}
use Rattle.cow_model.specs.Members.{member}
use Rattle.cow_model.specs.declared.plain.Literal.{Literal}
use Rattle.cow_ordered.proofs.set.OrderedSet.remove.Goals as goal

pub returns-in-None-clause-ok : goal.returns-in-None-clause-ok
returns-in-None-clause-ok g c =
    let a = g.E.Equivalent.sought c.args.k.now in
    let gone = sym (ap (λ (f : Flat (List Literal)). member a f.value) c.self.view_is)
    ∙ ap (λ (m : MembersView g.row.K.Denot). member a (map g.K.Item.plain m.keys.items)) (sym c.get.ensures) ∙ c.in-None.ensures.absent in
    record { value = without-none a c.args.self.now.value gone; handle = inl refl }

pub returns-in_ok-prepare-in-Some-clause-ok : goal.returns-in_ok-prepare-in-Some-clause-ok
returns-in_ok-prepare-in-Some-clause-ok g c =
    let a = g.E.Equivalent.sought c.args.k.now in
    let xs = c.prepare.new.cell.value.keys.items in
    let there = subst (λ (m : MembersView g.row.K.Denot). HasAt g.K.Item.plain m a c.in-Some.i) c.get.ensures c.in-Some.ensures.found in
    let now = has-alike g.K.Item.plain c.self.inside.cell.value.keys.items xs a c.in-Some.i c.prepare.ensures.same there in
    record {
      value = ap (λ (l : List g.row.K.Denot). map g.K.Item.plain l) c.remove_at.ensures.rest
          ∙ ap (λ (m : MembersView g.row.K.Denot). map g.K.Item.plain (remove m.keys.items c.in-Some.i)) c.only.ensures.value
          ∙ map-remove g.K.Item.plain xs c.in-Some.i
          ∙ remove-without a (map g.K.Item.plain xs) c.in-Some.i (distinct-by (map g.K.Item.plain xs) c.prepare.ensures.sound.apart) (slice_get-map g.K.Item.plain xs c.in-Some.i ∙ now)
          ∙ ap (λ l. without a l) c.prepare.ensures.same ∙ ap (λ (f : Flat (List Literal)). without a f.value) c.self.view_is;
      handle = inr (grind (arith, common_steps));
    }

pub returns-in_ok-prepare-in-Some-clause-old : goal.returns-in_ok-prepare-in-Some-clause-old
returns-in_ok-prepare-in-Some-clause-old g c =
    let a = g.E.Equivalent.sought c.args.k.now in
    let xs = c.prepare.new.cell.value.keys.items in
    let there = subst (λ (m : MembersView g.row.K.Denot). HasAt g.K.Item.plain m a c.in-Some.i) c.get.ensures c.in-Some.ensures.found in
    let now = has-alike g.K.Item.plain c.self.inside.cell.value.keys.items xs a c.in-Some.i c.prepare.ensures.same there in
    let taken = plain-at g.K.Item.plain xs c.in-Some.i c.remove_at.result a
    (subst (λ (m : MembersView g.row.K.Denot). slice_get m.keys.items c.in-Some.i ≡ Some c.remove_at.result) c.only.ensures.value c.remove_at.ensures.value) now in
    let is_member = sym (ap (λ (f : Flat (List Literal)). member a f.value) c.self.view_is)
    ∙ ap (λ (m : MembersView g.row.K.Denot). member a (map g.K.Item.plain m.keys.items)) (sym c.get.ensures) ∙ c.in-Some.ensures.there in
    found-there a (g.K.Item.plain c.remove_at.result) c.args.self.now.value is_member taken
