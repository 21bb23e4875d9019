use Rattle.cow_tasks.specs.Tasks.{SeenTask}
use Rattle.cow_tasks.proofs.TaskRuns.{ends-of}
use Rattle.cow_tasks.proofs.task.TaskJob.run.Goals as goal

pub returns : goal.returns
returns g c =
    let t : SeenTask = record { statements = c.self.inside.statements.now; env = c.self.inside.env; h = c.self.inside.h } in
    let did = rw (c.new-text.ensures.items, c.new-gives.ensures.items) at c.steps-outcome.ensures in
    rw (← c.self.view_is, c.allowed-allowed.ensures) (ends-of g.V.Shown.counted t c.steps-outcome.new.env c.steps-outcome.new.gives.items c.steps-outcome.new.text.items c.steps-outcome.new.h c.end.new.h c.steps-outcome.result did c.end.ensures.spare c.end.ensures.copied c.end.ensures.bare)
