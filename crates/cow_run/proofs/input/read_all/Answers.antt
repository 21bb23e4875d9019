use Rattle.std.proofs.lemmas.Result.{err_from_is_err_and}
use Rattle.cow_run.proofs.Known.{consumes_more}
use Rattle.cow_run.proofs.input.read_all.Goals as goal

pub returns-in_err-extend_from_slice-clause-stopped : goal.returns-in_err-extend_from_slice-clause-stopped
returns-in_err-extend_from_slice-clause-stopped g c =
    let p = err_from_is_err_and c.from_residual.result c.from_residual.ensures.1 in
    rw p.1 (_, consumes_more _ _ _ _ _ c.loop-room.invariant.1 c.in-Ok.ensures.bytes.0)
