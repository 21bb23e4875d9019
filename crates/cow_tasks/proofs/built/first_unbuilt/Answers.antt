use Rattle.std.proofs.Common.{sym, ◌∙◌}
use Rattle.cow_tasks.proofs.Unbuilt.{all-built}
use Rattle.cow_tasks.proofs.built.first_unbuilt.Goals as goal

pub returns-clause-none : goal.returns-clause-none
returns-clause-none c =
    let line = rw c.as_slice.ensures at c.first_line.ensures in
    λ e. all-built c.args.script.now.statements (sym line ∙ e)
