-- All the units of a stock may go to another thread.
use Rattle.std.proofs.Common.{◌^◌}
use denote.Param.Send.{IsSend}
use Rattle.cow_cell.specs.contracts.units.Opening.{the_row}
use Rattle.cow_cell.proofs.Keyless.{units_keyless}

pub send : IsSend the_row
send = record { owned = λ d vs. ((λ vss. (tt, ((λ uss. (tt, tt)), tt))), units_keyless d.name (2 ^ 62)); leaving = λ k f vs. tt }
