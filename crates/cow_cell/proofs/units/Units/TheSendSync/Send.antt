-- Units may go to another thread.
use denote.RattleType.{RattleType}
use denote.Param.Send.{IsSend}
use Rattle.cow_cell.specs.declared.units.Stock.{Ghosts}
use Rattle.cow_cell.specs.contracts.units.Units.{the_row}
use Rattle.cow_cell.proofs.Keyless.{units_keyless}

pub send : (Q : RattleType) (g : Ghosts Q.Denot) → IsSend (the_row Q g)
send Q g = record { owned = λ d vs. ((λ vss. (tt, ((λ uss. (tt, tt)), tt))), units_keyless g.name d.count); leaving = λ k f vs. tt }
