use Rattle.std.proofs.Common.{reverse, arith}
use Rattle.std.proofs.lemmas.Grind.{common_steps}
use Rattle.cow_elements.proofs.Equals.{tells-same}
use Rattle.kind_oset.proofs.oset.OrderedSetValueCollection.parts.Goals as goal

pub returns-in-Reverse : goal.returns-in-Reverse
returns-in-Reverse g c =
    let same = tells-same c.is_palindrome.result c.args.self.now.held.value (reverse c.args.self.now.held.value) c.is_palindrome.ensures in
    grind (arith, common_steps, same)
