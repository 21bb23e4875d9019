use Rattle.std.proofs.Common.{ap, not, ◌∙◌}
use Rattle.std.specs.Option.{is_some}
use Rattle.cow_crew.proofs.Passing.{has_job, has_ended}
use Rattle.tests_crew.proofs.crew.serves_three.Goals as goal

pub serve-requires-clause-job : goal.serve-requires-clause-job
serve-requires-clause-job c κs = has_job _ _ _ c.draw.ensures (ap is_some c.in-Some.is)

pub returns-clause-over : goal.returns-clause-over
returns-clause-over c = λ none. has_ended _ _ _ c.draw-2.ensures (c.is_none.ensures ∙ ap not none)
