use Rattle.std.proofs.Common.{arith}
use Rattle.std.proofs.lemmas.Grind.{common_steps}
use Rattle.cow_cell.proofs.Handles.{holding-same}
use Rattle.cow_deque.proofs.storage.reserve.Goals as goal

pub returns-in-Some-clause-in_place : goal.returns-in-Some-clause-in_place
returns-in-Some-clause-in_place g c = λ a l. (grind (arith, common_steps), holding-same c.reserve.new.self c.args.cell.now (grind (arith, common_steps)) a)
