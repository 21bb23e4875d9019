use Rattle.std.proofs.Common.{arith}
use Rattle.std.proofs.lemmas.Grind.{common_steps}
use Rattle.cow_cell.proofs.Handles.{holding-same}
use Rattle.cow_members.proofs.storage.prepare.Goals as goal

pub returns-in-Some-clause-in_place : goal.returns-in-Some-clause-in_place
returns-in-Some-clause-in_place g c = λ a l. rw (c.has_room.ensures.same a) (grind (arith, common_steps), holding-same c.reserve.new.members c.args.cell.now (grind (arith, common_steps, c.has_room.ensures.value)) a)
