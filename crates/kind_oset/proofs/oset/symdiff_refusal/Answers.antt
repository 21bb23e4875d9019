use Rattle.std.proofs.Common.{arith}
use Rattle.std.proofs.lemmas.Grind.{common_steps}
use Rattle.cow_members.proofs.Listed.{distinct-by}
use Rattle.kind_oset.proofs.OrderedSets.{length-either, length-either-most}
use Rattle.kind_oset.proofs.oset.symdiff_refusal.Goals as goal

pub returns-then-count : goal.returns-then-count
returns-then-count g c =
    let long = length-either-most c.args.s.now.value c.args.other.now.value in
    grind (arith, common_steps, long)

pub returns : goal.returns
returns g c =
    let long = length-either c.args.s.now.value c.args.other.now.value (distinct-by c.args.other.now.value c.lacking.ensures.others) in
    grind (arith, common_steps, long)
