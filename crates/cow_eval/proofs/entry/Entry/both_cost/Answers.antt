use Rattle.cow_eval.proofs.Flags.{both-few}
use Rattle.cow_eval.proofs.entry.Entry.both_cost.Goals as goal

pub returns-clause-small : goal.returns-clause-small
returns-clause-small g c = rw c.both_cost.ensures (both-few _ _ c.self.invariant.small)
