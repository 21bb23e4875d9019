use Rattle.std.proofs.Common.{arith, length-drop, take-append-drop, take, drop}
use Rattle.std.proofs.lemmas.Result.{err_from_is_err_and}
use Rattle.cow_run.proofs.Known.{appends_take, appends_keeps}
use Rattle.cow_run.proofs.output.write_all.Goals as goal

pub loop-at-preserved : goal.loop-at-preserved
loop-at-preserved g c = (
  omega (arith, c.loop-at.invariant.0, c.write.ensures.cause.later),
  appends_take _ _ _ c.args.text.now c.loop-at.at c.in_ok-at.field-0 c.loop-at.invariant.1 c.in_ok-at.ensures.bytes,
  omega (arith, c.loop-at.invariant.2, c.in_ok-at.ensures.bound, length-drop c.loop-at.at c.args.text.now),
)

pub returns-in_err-at-clause-err : goal.returns-in_err-at-clause-err
returns-in_err-at-clause-err g c =
    let p = err_from_is_err_and c.from_residual.result c.from_residual.ensures.1 in
    let at = c.loop-at.at in
    rw p.1 (take at c.args.text.now, (drop at c.args.text.now, take-append-drop at c.args.text.now), appends_keeps _ _ _ _ c.loop-at.invariant.1 c.in_err-at.ensures.bytes)
