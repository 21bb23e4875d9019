use Rattle.std.proofs.Common.{length, List, sym, ap, ◌∙◌}
use Rattle.cow_model.specs.Canon.{pairs}
use Rattle.cow_model.specs.Flat.{Flat}
use Rattle.cow_model.specs.declared.plain.Literal.{Literal}
use Rattle.cow_treeset.proofs.Tries.{length-set}
use Rattle.cow_treeset.proofs.set.TreeSet.count.Goals as goal

pub returns-clause-value : goal.returns-clause-value
returns-clause-value g c = c.self.invariant.4 ∙ sym (length-set (pairs (g.C.Level.shape c.self.inside.root.value))) ∙ ap (λ (f : Flat (List Literal)). length f.value) c.self.view_is
