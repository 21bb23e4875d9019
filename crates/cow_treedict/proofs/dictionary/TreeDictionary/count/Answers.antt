use Rattle.std.proofs.Common.{length, List, sym, ap, ◌∙◌}
use Rattle.cow_model.specs.Canon.{pairs}
use Rattle.cow_model.specs.Flat.{Flat}
use Rattle.cow_model.specs.declared.value.Pair.{Pair}
use Rattle.cow_dict.proofs.Maps.{length-by_key}
use Rattle.cow_treedict.proofs.dictionary.TreeDictionary.count.Goals as goal

pub returns-clause-value : goal.returns-clause-value
returns-clause-value g c = c.self.invariant.4 ∙ sym (length-by_key (pairs (g.C.Level.shape c.self.inside.root.value))) ∙ ap (λ (f : Flat (List Pair)). length f.value) c.self.view_is
