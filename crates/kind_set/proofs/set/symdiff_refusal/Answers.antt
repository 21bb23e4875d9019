use Rattle.std.proofs.Common.{arith}
use Rattle.std.proofs.lemmas.Grind.{common_steps}
use Rattle.cow_elements.proofs.Members.{length-symdiff, length-symdiff-most}
use Rattle.kind_set.proofs.set.symdiff_refusal.Goals as goal

pub returns-then-count : goal.returns-then-count
returns-then-count g c =
    let long = length-symdiff-most c.args.s.now.value c.args.other.now.value in
    grind (arith, common_steps, long)

pub returns : goal.returns
returns g c =
    let both = c.lacking.ensures.distinct in
    let long = length-symdiff c.args.s.now.value c.args.other.now.value both.0 both.1 in
    grind (arith, common_steps, long)
