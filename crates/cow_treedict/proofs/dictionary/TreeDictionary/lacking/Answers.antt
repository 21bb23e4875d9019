use Rattle.std.proofs.Common.{◌≡◌, ◌+◌, ◌-◌, ◌^◌, ◌≤◌, ◌<◌, List, Bool, not, min, sym, ap, ◌∙◌, subst, rules, arith}
use Rattle.cow_model.specs.Canon.{count_where, pairs}
use Rattle.cow_model.specs.Flat.{Flat}
use Rattle.cow_model.specs.declared.value.Pair.{Pair}
use Rattle.cow_dict.specs.Dictionaries.{has}
use Rattle.cow_dict.specs.Storages.{keys}
use Rattle.cow_members.specs.Ascents.{Ascends}
use Rattle.cow_members.specs.Sets.{lacking}
use Rattle.cow_treedict.proofs.Trees.{ascends-map, few-pass, lacking-map}
use Rattle.cow_treedict.proofs.dictionary.TreeDictionary.lacking.Goals as goal

pub returns-clause-value : goal.returns-clause-value
returns-clause-value g c =
    let v = c.args.self.now.value in
    let ps = pairs (g.C.Level.shape c.other.inside.root.value) in
    let told = c.tally.ensures (λ a b. not (has a v)) (λ k w r h. search rules) ∙ ap (λ n. min (count_where (λ p. not (has p.key v)) (pairs (g.C.Level.shape n))) (2 ^ 64 - 1)) c.get.ensures in
    let few = few-pass (λ p. not (has p.key v)) ps in
    let all = lacking-map v ps ∙ ap (λ (f : Flat (List Pair)). lacking (keys v) (keys f.value)) c.other.view_is in
    omega (arith, told, few, all, c.other.invariant.4, c.other.invariant.5)

pub returns-clause-distinct : goal.returns-clause-distinct
returns-clause-distinct g c = (
  subst (λ (f : Flat (List Pair)). Ascends (keys f.value)) c.self.view_is (ascends-map (pairs (g.C.Level.shape c.self.inside.root.value)) c.self.invariant.3.distinct),
  subst (λ (f : Flat (List Pair)). Ascends (keys f.value)) c.other.view_is (ascends-map (pairs (g.C.Level.shape c.other.inside.root.value)) c.other.invariant.3.distinct),
)
