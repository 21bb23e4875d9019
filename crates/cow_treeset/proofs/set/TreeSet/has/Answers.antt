use Rattle.std.proofs.Common.{List, ap, ◌∙◌}
use Rattle.cow_model.specs.Canon.{pairs, get}
use Rattle.cow_model.specs.Flat.{Flat}
use Rattle.cow_model.specs.Members.{member}
use Rattle.cow_model.specs.declared.plain.Literal.{Literal}
use Rattle.cow_treeset.proofs.Tries.{nothing, found-some, get-member}
use Rattle.cow_treeset.proofs.set.TreeSet.has.Goals as goal

pub returns : goal.returns
returns g c =
    let a = g.E.Equivalent.sought c.args.k.now in
    let ps = pairs (g.C.Level.shape c.self.inside.root.value) in
    c.is_some.ensures ∙ found-some nothing c.find.result (get a ps) (c.find.ensures ∙ ap (λ n. get a (pairs (g.C.Level.shape n))) c.get.ensures)
    ∙ get-member a ps ∙ ap (λ (f : Flat (List Literal)). member a f.value) c.self.view_is
