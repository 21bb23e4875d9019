use Rattle.std.proofs.Common.{◌≡◌, List, ◌∷◌, map, slice_get, Some, IsPermutation, inl, inr, refl, sym, ap, subst, ◌∙◌, arith}
use Rattle.std.proofs.lemmas.Grind.{common_steps}
use Rattle.cow_members.proofs.Ascents.{member-ascending}
use Rattle.cow_members.proofs.Sets.{has-alike}
use Rattle.cow_members.specs.Members.{MembersView, HasAt}
use Rattle.cow_model.specs.Flat.{Flat}
use Rattle.cow_model.specs.Members.{ascending, member}
use Rattle.cow_model.specs.declared.plain.Literal.{Literal}
use Rattle.cow_members.proofs.Keys.{found-there, plain-at, removed-set, without-none}
use Rattle.cow_set.proofs.set.Set.remove.Goals as goal
use Rattle.cow_members.specs.Sets.{without}

pub returns-in-None-clause-ok : goal.returns-in-None-clause-ok
returns-in-None-clause-ok g c =
    let a = g.E.Equivalent.sought c.args.k.now in
    let gone = sym (ap (λ (f : Flat (List Literal)). member a f.value) c.self.view_is) ∙ member-ascending a (map g.K.Item.plain c.self.inside.cell.value.keys.items)
    ∙ ap (λ (m : MembersView g.row.K.Denot). member a (map g.K.Item.plain m.keys.items)) (sym c.get.ensures) ∙ c.in-None.ensures.absent in
    record { value = without-none a c.args.self.now.value gone; handle = inl refl }

pub returns-in_ok-prepare-in-Some-clause-ok : goal.returns-in_ok-prepare-in-Some-clause-ok
returns-in_ok-prepare-in-Some-clause-ok g c =
    let a = g.E.Equivalent.sought c.args.k.now in
    let there = subst (λ (m : MembersView g.row.K.Denot). HasAt g.K.Item.plain m a c.in-Some.i) c.get.ensures c.in-Some.ensures.found in
    let now = has-alike g.K.Item.plain c.self.inside.cell.value.keys.items c.prepare.new.cell.value.keys.items a c.in-Some.i c.prepare.ensures.same there in
    let taken = plain-at g.K.Item.plain c.prepare.new.cell.value.keys.items c.in-Some.i c.take.result a
    (subst (λ (m : MembersView g.row.K.Denot). slice_get m.keys.items c.in-Some.i ≡ Some c.take.result) c.only.ensures.value c.take.ensures.value) now in
    record {
      value = removed-set g.K.Item.plain c.prepare.new.cell.value.keys.items c.take.new.members.keys.items c.take.result a c.prepare.ensures.sound.apart
          (subst (λ (m : MembersView g.row.K.Denot). IsPermutation m.keys.items (c.take.result ∷ c.take.new.members.keys.items)) c.only.ensures.value c.take.ensures.others) taken
          ∙ ap (λ l. without a (ascending l)) c.prepare.ensures.same ∙ ap (λ (f : Flat (List Literal)). without a f.value) c.self.view_is;
      handle = inr (grind (arith, common_steps));
    }

pub returns-in_ok-prepare-in-Some-clause-old : goal.returns-in_ok-prepare-in-Some-clause-old
returns-in_ok-prepare-in-Some-clause-old g c =
    let a = g.E.Equivalent.sought c.args.k.now in
    let there = subst (λ (m : MembersView g.row.K.Denot). HasAt g.K.Item.plain m a c.in-Some.i) c.get.ensures c.in-Some.ensures.found in
    let now = has-alike g.K.Item.plain c.self.inside.cell.value.keys.items c.prepare.new.cell.value.keys.items a c.in-Some.i c.prepare.ensures.same there in
    let taken = plain-at g.K.Item.plain c.prepare.new.cell.value.keys.items c.in-Some.i c.take.result a
    (subst (λ (m : MembersView g.row.K.Denot). slice_get m.keys.items c.in-Some.i ≡ Some c.take.result) c.only.ensures.value c.take.ensures.value) now in
    let is_member = sym (ap (λ (f : Flat (List Literal)). member a f.value) c.self.view_is) ∙ member-ascending a (map g.K.Item.plain c.self.inside.cell.value.keys.items)
    ∙ ap (λ (m : MembersView g.row.K.Denot). member a (map g.K.Item.plain m.keys.items)) (sym c.get.ensures) ∙ c.in-Some.ensures.there in
    found-there a (g.K.Item.plain c.take.result) c.args.self.now.value is_member taken
