use Rattle.std.proofs.Common.{List, subst}
use Rattle.cow_model.specs.Canon.{pairs}
use Rattle.cow_model.specs.Flat.{Flat}
use Rattle.cow_model.specs.declared.value.Pair.{Pair}
use Rattle.cow_dict.specs.Storages.{keys}
use Rattle.cow_members.specs.Ascents.{Ascends}
use Rattle.cow_treedict.proofs.Trees.{ascends-map}
use Rattle.cow_treedict.proofs.dictionary.TreeDictionary.references.Goals as goal

pub returns-in_err-walk-clause-distinct : goal.returns-in_err-walk-clause-distinct
returns-in_err-walk-clause-distinct g c = subst (λ (f : Flat (List Pair)). Ascends (keys f.value)) c.self.view_is (ascends-map (pairs (g.C.Level.shape c.self.inside.root.value)) c.self.invariant.3.distinct)

pub returns-clause-distinct : goal.returns-clause-distinct
returns-clause-distinct g c = subst (λ (f : Flat (List Pair)). Ascends (keys f.value)) c.self.view_is (ascends-map (pairs (g.C.Level.shape c.self.inside.root.value)) c.self.invariant.3.distinct)
