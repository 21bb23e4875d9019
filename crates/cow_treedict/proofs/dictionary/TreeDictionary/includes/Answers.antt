use Rattle.std.proofs.Common.{◌≡◌, List, sym, ap, ◌∙◌, subst, rules}
use Rattle.std.specs.List.{list_all}
use Rattle.cow_model.specs.Canon.{pairs}
use Rattle.cow_model.specs.Flat.{Flat}
use Rattle.cow_model.specs.declared.value.Pair.{Pair}
use Rattle.cow_dict.specs.Dictionaries.{holds}
use Rattle.cow_dict.specs.Storages.{by_key, keys, pair_of}
use Rattle.cow_dict.proofs.Maps.{distinct-ascending}
use Rattle.cow_dict.proofs.Questions.{held-by_key}
use Rattle.cow_members.specs.Ascents.{Ascends}
use Rattle.cow_treedict.proofs.Trees.{ascends-map, distinct-map, own-map}
use Rattle.cow_treedict.proofs.dictionary.TreeDictionary.includes.Goals as goal

pub returns-clause-value : goal.returns-clause-value
returns-clause-value g c =
    let v = c.args.self.now.value in
    let rs = pairs (g.C.Level.shape c.other.inside.root.value) in
    let up = subst (λ (f : Flat (List Pair)). Ascends (keys f.value)) c.self.view_is (ascends-map (pairs (g.C.Level.shape c.self.inside.root.value)) c.self.invariant.3.distinct) in
    let told = c.all.ensures (λ a b. holds v (pair_of a b)) (λ k w r h. search rules) ∙ ap (λ n. list_all (holds v) (pairs (g.C.Level.shape n))) c.get.ensures in
    told ∙ held-by_key v rs (distinct-ascending v up) (distinct-map rs c.other.invariant.3.distinct)
    ∙ ap (λ l. list_all (holds l) (by_key rs)) (sym (own-map v up)) ∙ ap (λ (f : Flat (List Pair)). list_all (holds v) f.value) c.other.view_is

pub returns-clause-distinct : goal.returns-clause-distinct
returns-clause-distinct g c = (
  subst (λ (f : Flat (List Pair)). Ascends (keys f.value)) c.self.view_is (ascends-map (pairs (g.C.Level.shape c.self.inside.root.value)) c.self.invariant.3.distinct),
  subst (λ (f : Flat (List Pair)). Ascends (keys f.value)) c.other.view_is (ascends-map (pairs (g.C.Level.shape c.other.inside.root.value)) c.other.invariant.3.distinct),
)
