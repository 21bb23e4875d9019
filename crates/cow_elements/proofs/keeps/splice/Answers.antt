use Rattle.std.proofs.Common.{arith}
use Rattle.std.proofs.lemmas.Grind.{common_steps}
use Rattle.cow_elements.proofs.Alike.{splice-same}
use Rattle.cow_elements.proofs.keeps.splice.Goals as goal

pub returns-in-Some : goal.returns-in-Some
returns-in-Some g c =
    let same = splice-same c.shows.result (g.L.Listed.elements c.args.list.now) c.args.atoms.now c.in-Some.from c.in-Some.to c.in-Some.ensures.order c.shows.ensures in
    grind (arith, common_steps, same)
