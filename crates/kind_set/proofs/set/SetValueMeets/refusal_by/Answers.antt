use Rattle.std.proofs.Common.{arith}
use Rattle.std.proofs.lemmas.Grind.{common_steps}
use Rattle.cow_elements.proofs.Members.{length_inter, length_minus}
use Rattle.kind_set.proofs.set.SetValueMeets.refusal_by.Goals as goal

pub returns-in-Inter : goal.returns-in-Inter
returns-in-Inter g c =
    let few = length_inter c.args.self.now.held.value c.in-Some.other.now.held.value in
    grind (arith, common_steps, few)

pub returns-in-Inter-2 : goal.returns-in-Inter-2
returns-in-Inter-2 g c =
    let few = length_minus c.args.self.now.held.value c.in-Some.other.now.held.value in
    grind (arith, common_steps, few)
