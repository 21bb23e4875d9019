use Rattle.std.proofs.Common.{List, sym, ap, ◌∙◌}
use Rattle.cow_champ.specs.Words.{alike as alike_in}
use Rattle.cow_model.specs.Canon.{pairs}
use Rattle.cow_model.specs.Flat.{Flat}
use Rattle.cow_model.specs.declared.plain.Literal.{Literal}
use Rattle.cow_treeset.specs.TreeSets.{alike}
use Rattle.cow_treeset.proofs.Tries.{alike-set}
use Rattle.cow_treeset.proofs.set.TreeSet.hash_count.Goals as goal

pub returns : goal.returns
returns g c =
    let hash_of = g.K.Key.hash_of in
    c.hash_count.ensures ∙ ap (λ n. alike_in hash_of c.args.hash (g.C.Level.shape n)) c.get.ensures
    ∙ sym (alike-set hash_of c.args.hash (pairs (g.C.Level.shape c.self.inside.root.value))) ∙ ap (λ (f : Flat (List Literal)). alike hash_of c.args.hash f.value) c.self.view_is
