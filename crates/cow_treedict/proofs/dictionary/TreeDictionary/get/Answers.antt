use Rattle.std.proofs.Common.{List, ap, ◌∙◌, subst}
use Rattle.cow_model.specs.Canon.{pairs, get}
use Rattle.cow_model.specs.Flat.{Flat}
use Rattle.cow_model.specs.declared.value.Pair.{Pair}
use Rattle.cow_model.specs.Pairs.{value_in}
use Rattle.cow_dict.specs.Storages.{keys}
use Rattle.cow_members.specs.Ascents.{Ascends}
use Rattle.cow_treedict.proofs.Trees.{ascends-map, get-map}
use Rattle.cow_treedict.proofs.dictionary.TreeDictionary.get.Goals as goal

pub returns-clause-value : goal.returns-clause-value
returns-clause-value g c =
    let a = g.E.Equivalent.sought c.args.k.now in
    c.find.ensures ∙ ap (λ n. get a (pairs (g.C.Level.shape n))) c.get.ensures ∙ get-map a (pairs (g.C.Level.shape c.self.inside.root.value)) c.self.invariant.3.distinct ∙ ap (λ (f : Flat (List Pair)). value_in a f.value) c.self.view_is

pub returns-clause-distinct : goal.returns-clause-distinct
returns-clause-distinct g c = subst (λ (f : Flat (List Pair)). Ascends (keys f.value)) c.self.view_is (ascends-map (pairs (g.C.Level.shape c.self.inside.root.value)) c.self.invariant.3.distinct)
