use Rattle.std.proofs.Common.{◌≤◌, length, arith}
use Rattle.cow_run.proofs.Read.{is_read}
use Rattle.tests_tasks.proofs.blocks.printed.Goals as goal

pub text_of-requires-clause-read : goal.text_of-requires-clause-read
text_of-requires-clause-read g c κs within =
    let short : length c.args.bytes.now ≤ 1048576 = omega (arith, c.if-bytes-gt1048576.false) in
    is_read c.args.bytes.now c.in-Ok.script.statements c.in-Ok.ensures short
