use Rattle.std.proofs.Common.{sym, ◌∙◌}
use Rattle.cow_run.proofs.Ran.{run_ended}
use Rattle.cow_run.proofs.run.run_built.Goals as goal

pub returns-in-Ok-clause-answer : goal.returns-in-Ok-clause-answer
returns-in-Ok-clause-answer g c =
    run_ended _ _ _ _ _ _ _ _ _ c.as_slice-statements.ensures
    (c.in-Ok.ensures.ok, c.run_values.ensures.most, c.in-Ok.ensures.least, c.in-Ok.ensures.bare, c.in-Ok.ensures.asked)
    (sym c.first_unbuilt.ensures.line ∙ c.in_default.is) c.counted.ensures
