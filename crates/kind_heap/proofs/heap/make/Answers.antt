use Rattle.std.proofs.Common.{arith}
use Rattle.std.proofs.lemmas.Grind.{common_steps}
use Rattle.cow_model.proofs.Ascending.{count_ascending}
use Rattle.kind_heap.proofs.heap.make.Goals as goal

pub returns-in-Ok-clause-paid : goal.returns-in-Ok-clause-paid
returns-in-Ok-clause-paid g c =
    let alike = count_ascending g.T.Item.is_counted c.args.atoms.now in
    grind (arith, common_steps, alike)
