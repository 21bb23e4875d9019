use Rattle.std.proofs.Common.{arith}
use Rattle.std.proofs.lemmas.Grind.{common_steps}
use Rattle.cow_eval.proofs.Makes.{made-flat, made-units}
use Rattle.cow_eval.proofs.statement.make.Goals as goal
use Rattle.cow_model.proofs.Bare.{made-bare}
use Rattle.cow_model.proofs.Counts.{made-small}

pub give-requires : goal.give-requires
give-requires g c =
    let few = made-small c.args.kind c.args.atoms.now in
    grind (arith, common_steps, few)

pub returns-clause-step : goal.returns-clause-step
returns-clause-step g c =
    let units = made-units g.V.Shown.counted c.args.kind c.args.atoms.now in
    let flat = made-flat c.args.kind c.args.atoms.now in
    let bare = made-bare g.V.Shown.counted c.args.kind c.args.atoms.now in
    record {
      env = grind (arith, common_steps);
      text = grind (arith, common_steps);
      kept = grind (arith, common_steps);
      most = grind (arith, common_steps);
      costs = grind (arith, common_steps, units);
      bare = grind (arith, common_steps, flat, bare);
    }
