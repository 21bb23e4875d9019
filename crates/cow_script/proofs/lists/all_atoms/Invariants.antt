use Rattle.std.proofs.Common.{length}
use Rattle.cow_script.proofs.AtomLists.{AtomsSoFar}
use Rattle.cow_script.proofs.lists.all_atoms.Given as goal

abbrev pub invariant-loop-x : goal.invariant-loop-x
invariant-loop-x l = AtomsSoFar l.atoms.items l.tokens l.fn.tokens

abbrev pub decreases-loop-x : goal.decreases-loop-x
decreases-loop-x l = length l.tokens
