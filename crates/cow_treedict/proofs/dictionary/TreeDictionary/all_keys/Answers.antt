use Rattle.std.proofs.Common.{◌≡◌, List, rules, sym, ap, ◌∙◌}
use Rattle.std.specs.List.{list_all}
use Rattle.cow_model.specs.Canon.{pairs}
use Rattle.cow_model.specs.Flat.{Flat}
use Rattle.cow_model.specs.declared.value.Pair.{Pair}
use Rattle.cow_dict.proofs.Maps.{keys-by_key}
use Rattle.cow_dict.proofs.Questions.{all-ascending}
use Rattle.cow_dict.specs.Storages.{keys}
use Rattle.cow_treedict.proofs.Trees.{all-of-keys}
use Rattle.cow_treedict.proofs.dictionary.TreeDictionary.all_keys.Goals as goal

pub returns : goal.returns
returns g c = λ p h.
    let ps = pairs (g.C.Level.shape c.self.inside.root.value) in
    c.all.ensures (λ a b. p a) (λ k v r e. search rules) ∙ ap (λ n. list_all (λ q. p q.key) (pairs (g.C.Level.shape n))) c.get.ensures
    ∙ all-of-keys p ps ∙ all-ascending p (keys ps) ∙ ap (list_all p) (sym (keys-by_key ps)) ∙ ap (λ (f : Flat (List Pair)). list_all p (keys f.value)) c.self.view_is
