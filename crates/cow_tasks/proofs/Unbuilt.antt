-- Where no line is told all statements are built, those of tasks among them.
use Rattle.std.proofs.Common.{◌≡◌, List, [], ◌∷◌, None}
use Rattle.std.specs.Prelude.{All}
use Rattle.std.proofs.lemmas.List.Elements.{All-nil, All-cons}
use Rattle.cow_model.specs.Sharing.{Layer}
use Rattle.cow_model.specs.declared.statement.Statement.{Statement, out-Statement}
use Rattle.cow_model.specs.declared.statement.Statement.TheOpen.{Statement-F}
use Rattle.cow_model.specs.declared.statement.TaskBlock.{TaskBlock}
use Rattle.cow_value.proofs.Unbuilt.{none-built, neither}
use Rattle.cow_value.specs.Built.{unbuilt_at}
use Rattle.cow_tasks.specs.Blocks.{statements_in, tasks_in, unbuilt_in_task, unbuilt_in_tasks, unbuilt_in, unbuilt_line, IsBuilt, IsBuiltAlone, IsBuiltStep, IsBuiltTask}

built-task : (ss : List Statement) → unbuilt_in_task ss ≡ None → All IsBuiltStep ss
built-task [] e = All-nil IsBuiltStep
built-task (s ∷ ss) e = let both = neither _ (unbuilt_in_task ss) e in All-cons IsBuiltStep s ss (none-built (out-Statement s) both.0) (built-task ss both.1)

built-tasks : (ts : List TaskBlock) → unbuilt_in_tasks ts ≡ None → All IsBuiltTask ts
built-tasks [] e = All-nil IsBuiltTask
built-tasks (t ∷ ts) e = let both = neither _ (unbuilt_in_tasks ts) e in All-cons IsBuiltTask t ts (built-task (statements_in t) both.0) (built-tasks ts both.1)

built-layer : (s : Layer) → unbuilt_in s ≡ None → IsBuiltAlone s × All IsBuiltTask (tasks_in s)
built-layer (Statement-F.Lazy l n i asked) e = (_, All-nil IsBuiltTask)
built-layer s e = let both = neither (unbuilt_at s) (unbuilt_in_tasks (tasks_in s)) e in (none-built s both.0, built-tasks (tasks_in s) both.1)

built-one : (s : Statement) → unbuilt_in (out-Statement s) ≡ None → IsBuilt s
built-one s e = built-layer (out-Statement s) e

pub all-built : (ss : List Statement) → unbuilt_line ss ≡ None → All IsBuilt ss
all-built [] e = All-nil IsBuilt
all-built (s ∷ ss) e = let both = neither _ (unbuilt_line ss) e in All-cons IsBuilt s ss (built-one s both.0) (all-built ss both.1)
