use Rattle.std.proofs.Common.{arith}
use Rattle.std.proofs.lemmas.Grind.{common_steps}
use Rattle.kind_dict.proofs.Dicts.{length-merge, length-merge-most}
use Rattle.kind_dict.proofs.dict.merge_refusal.Goals as goal

pub returns-then-count-room : goal.returns-then-count-room
returns-then-count-room g c =
    let long = length-merge-most c.args.take c.args.d.now.value c.args.other.now.value in
    grind (arith, common_steps, long)

pub returns : goal.returns
returns g c =
    let long = length-merge c.args.take c.args.d.now.value c.args.other.now.value c.lacking.ensures.distinct.1 in
    grind (arith, common_steps, long)
