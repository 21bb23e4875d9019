use Rattle.std.proofs.Common.{arith}
use Rattle.std.proofs.lemmas.Grind.{common_steps}
use Rattle.cow_elements.proofs.Alike.{swap-same}
use Rattle.cow_elements.proofs.keeps.swap.Goals as goal

pub returns-in-Some-Some : goal.returns-in-Some-Some
returns-in-Some-Some g c =
    let same = swap-same c.agree.result (g.L.Listed.elements c.args.list.now) c.in-Some-Some.first c.in-Some-Some.second (grind (arith, common_steps)) (grind (arith, common_steps)) c.agree.ensures in
    grind (arith, common_steps, same)
