use Rattle.std.proofs.Common.{refl, inl, ap, Err}
use Rattle.cow_run.specs.Answer.{too_long}
use Rattle.cow_run.specs.Lines.{fault_text}
use Rattle.cow_run.proofs.Ran.{line_written}
use Rattle.cow_run.proofs.Whole.{run_answers}
use Rattle.cow_run.proofs.run.run.Goals as goal

pub returns-in-Err-TooLong-clause-answer : goal.returns-in-Err-TooLong-clause-answer
returns-in-Err-TooLong-clause-answer g c =
    let much = c.in-Err-TooLong.ensures.too_long (ap Err c.in-Err-TooLong.field-0-is) in
    let line = line_written _ _ _ (fault_text too_long) c.write_fault.ensures.line in
    record {
      read = much.0;
      written = line.0;
      consumed = much.1;
      appended = line.1;
      says = (inl (refl, much.2), line.2, c.requires.fresh);
    }

pub returns-in-Ok-clause-answer : goal.returns-in-Ok-clause-answer
returns-in-Ok-clause-answer g c =
    let whole = c.in-Ok.ensures.whole in
    run_answers _ _ _ _ _ _ _ _ _ _ _ c.deref.ensures.value whole.consumed whole.at_end c.run_bytes.ensures.usage c.run_bytes.ensures.read_fault c.run_bytes.ensures.answer
