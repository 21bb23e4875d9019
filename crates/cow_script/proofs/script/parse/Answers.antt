use Rattle.std.proofs.Common.{refl, subst, arith}
use Rattle.cow_script.specs.Reads.{Parses}
use Rattle.cow_script.proofs.LinesRead.{read_done, read_more, read_start, read_stop}
use Rattle.cow_script.proofs.script.parse.Goals as goal

pub loop-empty-init : goal.loop-empty-init
loop-empty-init c = rw c.new.ensures (read_start c.args.bytes.now, omega arith)

pub returns-in-Err : goal.returns-in-Err
returns-in-Err c =
    rw c.stop_at.ensures (read_stop c.loop-empty.reading c.loop-empty.line c.loop-empty.rest.now c.in-Some.empty c.in-Some.text.now c.in-Some.after.now _ _ c.in-Err.stop c.loop-empty.invariant.0 c.in-Some.ensures.line refl c.in-Err.ensures)

pub loop-empty-preserved : goal.loop-empty-preserved
loop-empty-preserved c = (
  read_more c.loop-empty.reading c.loop-empty.line c.loop-empty.rest.now c.in-Some.empty c.in-Some.text.now c.in-Some.after.now _ _ c.in-Ok.more c.loop-empty.invariant.0 c.in-Some.ensures.line refl c.in-Ok.ensures,
  omega (arith, c.loop-empty.invariant.1, c.in-Some.ensures.bytes),
)

pub returns : goal.returns
returns c = subst (λ said. Parses said c.closed.result) (read_done c.loop-empty.reading c.loop-empty.line c.loop-empty.rest.now _ c.loop-empty.invariant.0 c.in_default.ensures.line) c.closed.ensures
