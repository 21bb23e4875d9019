use Rattle.std.proofs.Common.{rules}
use Rattle.cow_crew.proofs.Steps.{splits}
use Rattle.cow_crew.proofs.board.Board.split.Goals as goal

pub split_seat-seat-requires : goal.split_seat-seat-requires
split_seat-seat-requires g c = (search rules, search rules, splits g.J.Job.gives _ _ _ (search rules) (search rules) (search rules))
