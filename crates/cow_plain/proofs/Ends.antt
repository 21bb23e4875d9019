-- The tasks of a fork, once there are no names or no tasks left.
use Rattle.std.proofs.Common.{◌≡◌, ◌<◌, List, [], ◌∷◌, ◌++◌, length, refl, ap, sym, ◌∙◌, arith, append-nil}
use Rattle.cow_model.specs.Fork.{tasks_run}
use Rattle.cow_model.specs.declared.fork.Task.{Task}
use Rattle.cow_model.specs.declared.outcome.Entry.{Entry}
use Rattle.cow_model.specs.declared.shape.Shape.{Shape}
use Rattle.cow_model.specs.declared.statement.TaskBlock.{TaskBlock}

no_tasks : (shapes : List Shape) (names : List (List Entry)) (tasks : List TaskBlock) → length tasks < 1 → tasks_run shapes names tasks ≡ []
no_tasks shapes [] [] h = refl
no_tasks shapes (first ∷ names) [] h = refl
no_tasks shapes names (task ∷ tasks) h = absurd (omega arith)

-- there are no tasks left, so the tasks that have run are all of them
pub tasks_done : (shapes : List Shape) (made whole : List Task) (names : List (List Entry)) (tasks : List TaskBlock) → length tasks < 1 → made ++ tasks_run shapes names tasks ≡ whole → made ≡ whole
tasks_done shapes made whole names tasks h all = sym (append-nil made) ∙ (ap (λ ts. made ++ ts) (sym (no_tasks shapes names tasks h)) ∙ all)
