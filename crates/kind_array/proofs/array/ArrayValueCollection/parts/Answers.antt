use Rattle.std.proofs.Common.{reverse, arith}
use Rattle.std.proofs.lemmas.Grind.{common_steps}
use Rattle.cow_elements.proofs.Alike.{itself}
use Rattle.cow_elements.proofs.Equals.{tells-same}
use Rattle.kind_array.proofs.array.ArrayValueCollection.parts.Goals as goal

pub returns-in-Reverse : goal.returns-in-Reverse
returns-in-Reverse g c =
    let same = tells-same c.is_palindrome.result c.args.self.now.held.value (reverse c.args.self.now.held.value) c.is_palindrome.ensures in
    grind (arith, common_steps, same)

pub returns-in-Reserve : goal.returns-in-Reserve
returns-in-Reserve g c =
    let same = itself c.args.self.now.held.value in
    grind (arith, common_steps, same)
