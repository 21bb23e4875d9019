use Rattle.std.proofs.Common.{List, rules, ap, ◌∙◌}
use Rattle.std.specs.List.{list_all}
use Rattle.cow_model.specs.Canon.{pairs}
use Rattle.cow_model.specs.Flat.{Flat}
use Rattle.cow_model.specs.declared.value.Pair.{Pair}
use Rattle.cow_treedict.proofs.Filters.{all-map}
use Rattle.cow_treedict.proofs.dictionary.TreeDictionary.all_stay.Goals as goal

pub returns : goal.returns
returns g c = λ p h.
    c.all.ensures (λ a b. p a) (λ k v r e. search rules) ∙ ap (λ n. list_all (λ q. p q.key) (pairs (g.C.Level.shape n))) c.get.ensures
    ∙ all-map p (pairs (g.C.Level.shape c.self.inside.root.value)) c.args.self.now.value (ap (λ (f : Flat (List Pair)). f.value) c.self.view_is)
