use Rattle.std.proofs.Common.{List, map, sym, ap, subst, ◌∙◌}
use Rattle.cow_members.specs.Ascents.{Ascends}
use Rattle.cow_members.specs.Members.{MembersView}
use Rattle.cow_members.proofs.Listed.{place-told}
use Rattle.cow_model.specs.Flat.{Flat}
use Rattle.cow_model.specs.Members.{ascending, place_in}
use Rattle.cow_model.specs.declared.plain.Literal.{Literal}
use Rattle.cow_ordered.proofs.set.OrderedSet.index_of.Goals as goal

pub returns : goal.returns
returns g c =
    let a = g.E.Equivalent.sought c.args.k.now in
    let s = subst (λ (m : MembersView g.row.K.Denot). Ascends (ascending (map g.K.Item.plain m.keys.items))) (sym c.get.ensures) c.self.invariant.0.apart in
    place-told g.K.Item.plain c.place_of.result a c.get.result.now.keys.items s c.place_of.ensures.found c.place_of.ensures.absent
    ∙ ap (λ (m : MembersView g.row.K.Denot). place_in a (map g.K.Item.plain m.keys.items)) c.get.ensures ∙ ap (λ (f : Flat (List Literal)). place_in a f.value) c.self.view_is
