use Rattle.std.proofs.Common.{arith}
use Rattle.std.proofs.lemmas.Grind.{common_steps}
use Rattle.cow_elements.proofs.Members.{length_minus}
use Rattle.kind_set.proofs.set.minus.Goals as goal

pub returns-clause-paid : goal.returns-clause-paid
returns-clause-paid g c =
    let few = length_minus c.args.s.now.value c.args.other.now.value in
    grind (arith, common_steps, few)
