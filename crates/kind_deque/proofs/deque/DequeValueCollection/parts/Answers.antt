use Rattle.std.proofs.Common.{arith}
use Rattle.std.proofs.lemmas.Grind.{common_steps}
use Rattle.cow_elements.proofs.Alike.{itself}
use Rattle.kind_deque.proofs.deque.DequeValueCollection.parts.Goals as goal

pub returns-in-Reserve : goal.returns-in-Reserve
returns-in-Reserve g c =
    let same = itself c.args.self.now.held.value in
    grind (arith, common_steps, same)
