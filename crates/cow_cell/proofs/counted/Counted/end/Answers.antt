use Rattle.std.proofs.Common.{◌+◌, ◌<◌, ◌^◌, IfNone, arith, rules}
use Rattle.cow_cell.proofs.Turns.{ended, left}
use Rattle.cow_cell.proofs.counted.Counted.end.Goals as goal

pub returns-clause-last : goal.returns-clause-last
returns-clause-last g c = ended _ _ c.match-last.result (omega (arith, c.h.invariant.0, c.release-last.ensures.0, c.release-last.ensures.1))

pub returns-clause-leave : goal.returns-clause-leave
returns-clause-leave g c =
    let out : IfNone c.match-last.result (c.h.inside.spare + 1 < 2 ^ 62) = search rules in
    left _ _ c.match-last.result out
