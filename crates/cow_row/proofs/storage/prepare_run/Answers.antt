use Rattle.std.proofs.Common.{arith}
use Rattle.std.proofs.lemmas.Grind.{common_steps}
use Rattle.cow_cell.proofs.Handles.{holding-same}
use Rattle.cow_row.proofs.Runs.{units-run}
use Rattle.cow_row.proofs.storage.prepare_run.Goals as goal

pub returns-in-Some-clause-in_place : goal.returns-in-Some-clause-in_place
returns-in-Some-clause-in_place g c = λ a l. rw (c.has_room.ensures.same a) (grind (arith, common_steps), holding-same c.reserve.new.self c.args.cell.now (grind (arith, common_steps, c.has_room.ensures.value)) a)

pub returns-clause-units : goal.returns-clause-units
returns-clause-units g c = rw (c.in_ok-renew.ensures.same, c.has_room.ensures.value) (units-run g.T.Item.plain g.T.Item.is_counted c.args.cell.now.value.items c.args.start c.args.count)
