use Rattle.std.proofs.Common.{ap, ◌∙◌}
use Rattle.cow_model.specs.Members.{ascending}
use Rattle.cow_treeset.proofs.Tries.{IfOk_map}
use Rattle.cow_treeset.proofs.set.TreeSet.references.Goals as goal

pub returns-clause-value : goal.returns-clause-value
returns-clause-value g c = IfOk_map c.firsts.result (λ v e. ap ascending e ∙ c.in_ok-pairs.ensures.value) c.firsts.ensures
