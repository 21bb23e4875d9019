use Rattle.std.proofs.Common.{arith}
use Rattle.std.proofs.lemmas.Grind.{common_steps}
use Rattle.cow_deque.specs.Rings.{turned}
use Rattle.cow_elements.proofs.Equals.{tells-same}
use Rattle.cow_elements.proofs.keeps.rotate.Goals as goal

pub returns-in-Some : goal.returns-in-Some
returns-in-Some g c =
    let xs = g.L.Listed.elements c.args.list.now in
    let same = tells-same c.repeats.result xs (turned c.in-Some.first xs) c.repeats.ensures in
    grind (arith, common_steps, same)
