use Rattle.cow_run.proofs.Read.{is_read}
use Rattle.cow_run.proofs.run.run_bytes.Goals as goal

pub run_built-requires-clause-read : goal.run_built-requires-clause-read
run_built-requires-clause-read g c = λ lifetimes outlives. is_read c.args.bytes.now c.in-Ok.script.statements c.in-Ok.ensures c.requires.short
