use Rattle.std.proofs.Common.{arith}
use Rattle.std.proofs.lemmas.Grind.{common_steps}
use Rattle.cow_elements.proofs.Members.{length-union, length-union-most}
use Rattle.kind_set.proofs.set.union_refusal.Goals as goal

pub returns-then-count-room : goal.returns-then-count-room
returns-then-count-room g c =
    let long = length-union-most c.args.s.now.value c.args.other.now.value in
    grind (arith, common_steps, long)

pub returns : goal.returns
returns g c =
    let long = length-union c.args.s.now.value c.args.other.now.value c.lacking.ensures.distinct.1 in
    grind (arith, common_steps, long)
