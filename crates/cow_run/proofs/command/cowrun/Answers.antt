use Rattle.std.proofs.Common.{sym, ◌∙◌, ap}
use Rattle.cow_run.specs.Options.{asks_census}
use Rattle.cow_run.proofs.Whole.{runs_whole}
use Rattle.cow_run.proofs.command.cowrun.Goals as goal

pub returns-in-Some-clause-complete : goal.returns-in-Some-clause-complete
returns-in-Some-clause-complete g c = λ asked.
    runs_whole _ _ _ _ _ _ _ _ _ _ _ (ap asks_census (sym c.in-Some.is ∙ c.options.ensures.words))
    c.run.ensures.answer c.run.ensures.usage c.run.ensures.read_fault c.run.ensures.write_fault
