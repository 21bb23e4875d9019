use Rattle.std.proofs.Common.{arith}
use Rattle.std.proofs.lemmas.Grind.{common_steps}
use Rattle.cow_lazy.proofs.Bounds.{view-moves}
use Rattle.cow_lazy.proofs.view.LazyView.collect.Goals as goal

pub returns-clause-within : goal.returns-clause-within
returns-clause-within g c =
    let moves = view-moves g.T.Item.is_counted g.met.T.Operand.integer_is_free g.T.Item.WEIGHT c.args.self.now.shape c.args.self.now.base.value c.args.h.now in
    grind (arith, common_steps, moves)
