use Rattle.std.proofs.Common.{arith}
use Rattle.std.proofs.lemmas.Grind.{common_steps}
use Rattle.cow_elements.proofs.Alike.{set-same}
use Rattle.cow_elements.proofs.keeps.set.Goals as goal

pub returns-in-Some : goal.returns-in-Some
returns-in-Some g c =
    let same = set-same c.is_at.result (g.L.Listed.elements c.args.list.now) c.in-Some.place c.args.atom.now (grind (arith, common_steps)) c.is_at.ensures in
    grind (arith, common_steps, same)
