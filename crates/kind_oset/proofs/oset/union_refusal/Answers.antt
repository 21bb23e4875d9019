use Rattle.std.proofs.Common.{arith}
use Rattle.std.proofs.lemmas.Grind.{common_steps}
use Rattle.cow_members.proofs.Listed.{distinct-by}
use Rattle.kind_oset.proofs.OrderedSets.{length-last, length-last-most}
use Rattle.kind_oset.proofs.oset.union_refusal.Goals as goal

pub returns-then-count-room : goal.returns-then-count-room
returns-then-count-room g c =
    let long = length-last-most c.args.s.now.value c.args.other.now.value in
    grind (arith, common_steps, long)

pub returns : goal.returns
returns g c =
    let long = length-last c.args.s.now.value c.args.other.now.value (distinct-by c.args.other.now.value c.lacking.ensures.others) in
    grind (arith, common_steps, long)
