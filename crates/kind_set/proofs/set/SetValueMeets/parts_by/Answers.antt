use Rattle.std.proofs.Common.{arith}
use Rattle.std.proofs.lemmas.Grind.{common_steps}
use Rattle.cow_elements.proofs.Members.{inter-same, minus-same, symdiff-same, union-same}
use Rattle.kind_set.proofs.set.SetValueMeets.parts_by.Goals as goal

pub returns-in-Union : goal.returns-in-Union
returns-in-Union g c =
    let same = union-same c.args.self.now.held.value c.in-Some.other.now.held.value in
    grind (arith, common_steps, same)

pub returns-in-Inter : goal.returns-in-Inter
returns-in-Inter g c =
    let same = inter-same c.args.self.now.held.value c.in-Some.other.now.held.value in
    grind (arith, common_steps, same)

pub returns-in-Minus : goal.returns-in-Minus
returns-in-Minus g c =
    let same = minus-same c.args.self.now.held.value c.in-Some.other.now.held.value in
    grind (arith, common_steps, same)

pub returns-in-SymDiff : goal.returns-in-SymDiff
returns-in-SymDiff g c =
    let same = symdiff-same c.is_empty.result c.args.self.now.held.value c.in-Some.other.now.held.value c.is_empty.ensures in
    grind (arith, common_steps, same)
