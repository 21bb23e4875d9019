use Rattle.std.proofs.Common.{List, subst}
use Rattle.cow_model.specs.Canon.{pairs}
use Rattle.cow_model.specs.Flat.{Flat}
use Rattle.cow_model.specs.declared.plain.Literal.{Literal}
use Rattle.cow_members.specs.Ascents.{Ascends}
use Rattle.cow_treeset.proofs.Tries.{distinct-keys}
use Rattle.cow_treeset.proofs.set.TreeSet.contains.Goals as goal

pub returns-clause-distinct : goal.returns-clause-distinct
returns-clause-distinct g c = subst (λ (f : Flat (List Literal)). Ascends f.value) c.self.view_is (distinct-keys (pairs (g.C.Level.shape c.self.inside.root.value)) c.self.invariant.3.distinct)
