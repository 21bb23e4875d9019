use Rattle.std.proofs.Common.{arith}
use Rattle.std.proofs.lemmas.Grind.{common_steps}
use Rattle.cow_elements.proofs.Units.{unit-of}
use Rattle.kind_array.proofs.array.remove.Goals as goal

pub returns-in-Ok-clause-paid : goal.returns-in-Ok-clause-paid
returns-in-Ok-clause-paid g c =
    let one = unit-of g.T.Item.is_counted c.args.a.now.value _ (g.T.Item.plain c.in-Ok.old) c.in-Ok.ensures.old in
    grind (arith, common_steps, one)
