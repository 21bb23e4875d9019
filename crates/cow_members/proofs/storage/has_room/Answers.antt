use Rattle.cow_cell.proofs.Handles.{holding-same}
use Rattle.cow_members.proofs.storage.has_room.Goals as goal

pub returns-in-Some-clause-same : goal.returns-in-Some-clause-same
returns-in-Some-clause-same g c = λ a. holding-same c.in-Some.members.now c.args.cell.now c.in-Some.ensures.value a
