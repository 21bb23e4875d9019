-- Forks: the captures are made, the tasks run one after another, and what they give is assigned.
use Rattle.std.specs.Prelude.{List, [], ◌∷◌, ◌++◌, Option, Some, None, if◌then◌else◌}
use Rattle.cow_model.specs.Lexis.{Text}
use Rattle.cow_model.specs.Printed.{refusal}
use Rattle.cow_model.specs.Env.{start_with, entry_of, has_place, given, without, settled, shared, renamed, allow}
use Rattle.cow_model.specs.Step.{step}
use Rattle.cow_model.specs.declared.shape.Shape.{Shape}
use Rattle.cow_model.specs.declared.statement.Capture.{Capture}
use Rattle.cow_model.specs.declared.statement.Statement.{Statement, out-Statement}
use Rattle.cow_model.specs.declared.statement.Statement.TheOpen.{Statement-F}
use Rattle.cow_model.specs.declared.statement.TaskBlock.{TaskBlock, out-TaskBlock}
use Rattle.cow_model.specs.declared.refusal.Refusal.TheVariants.{NoName, Full}
use Rattle.cow_model.specs.declared.outcome.Entry.{Entry}
use Rattle.cow_model.specs.declared.outcome.Environment.{Environment}
use Rattle.cow_model.specs.declared.outcome.Outcome.{Outcome}
use Rattle.cow_model.specs.declared.fork.Captured.{Captured}
use Rattle.cow_model.specs.declared.fork.Forked.{Forked}
use Rattle.cow_model.specs.declared.fork.Task.{Task}

-- a capture of a name that has to be there: moved, or copied, which leaves neither alone
abbrev pub captured : Captured → Capture → Option Entry → Captured
captured c capture None = record c { text = c.text ++ refusal NoName }
captured c capture (Some e) =
    if capture.moves then record c { parent = without e.name c.parent; names = given e c.names }
    else record c { parent = settled e.name c.parent; names = given (shared e) c.names }

-- captures in turn
abbrev pub captured_all : Captured → List Capture → Captured
captured_all c [] = c
captured_all c (capture ∷ captures) = captured_all (captured c capture (entry_of capture.name c.parent)) captures

-- a task at its start
abbrev pub task_start : List Entry → Task
task_start names = record { env = start_with names; text = []; gives = [] }

-- `give Y as Z`: Y's entry leaves the task under the name Z
abbrev pub give_in : Task → Text → Option Entry → Task
give_in task to None = record task { text = task.text ++ refusal NoName }
give_in task to (Some e) = record task { env = renamed (without e.name task.env.names) task.env; gives = task.gives ++ record e { name = to } ∷ [] }

-- a statement of a task that is no give
abbrev pub stepped : Task → Outcome → Task
stepped task out = record task { env = out.env; text = task.text ++ out.text }

-- a statement of a task
abbrev pub task_step : List Shape → Task → Statement-F Statement TaskBlock → Task
task_step shapes task (Statement-F.Give l y z) = give_in task z (entry_of y task.env.names)
task_step shapes task s = stepped task (step task.env shapes s)

-- the statements of a task in turn
abbrev pub task_run : List Shape → Task → List Statement → Task
task_run shapes task [] = task
task_run shapes task (s ∷ ss) = task_run shapes (task_step shapes task (out-Statement s)) ss

-- a fork once a further task has its captures
abbrev pub forked_on : Forked → Captured → Forked
forked_on f c = record { parent = c.parent; text = f.text ++ c.text; tasks = f.tasks ++ c.names ∷ [] }

-- the captures of a task, from the names that its parent has left
abbrev pub captured_by : List Entry → TaskBlock → Captured
captured_by parent t = captured_all (record { parent = parent; names = []; text = [] }) (out-TaskBlock t).captures

-- the captures of the tasks in written order
abbrev pub forked : Forked → List TaskBlock → Forked
forked f [] = f
forked f (t ∷ ts) = forked (forked_on f (captured_by f.parent t)) ts

-- a task at its end, from the names that it was given
abbrev pub task_end : List Shape → List Entry → TaskBlock → Task
task_end shapes names t = task_run shapes (task_start names) (out-TaskBlock t).statements

-- the tasks at their ends
abbrev pub tasks_run : List Shape → List (List Entry) → List TaskBlock → List Task
tasks_run shapes (names ∷ more) (t ∷ ts) = task_end shapes names t ∷ tasks_run shapes more ts
tasks_run shapes names ts = []

-- an entry that a task gave is assigned, where the parent has place for its name
abbrev pub assigned : Outcome → Entry → Outcome
assigned out e =
    if has_place e.name out.env.names then record out { env = renamed (given e out.env.names) out.env }
    else record out { text = out.text ++ refusal Full }

-- entries in turn
abbrev pub assigned_all : Outcome → List Entry → Outcome
assigned_all out [] = out
assigned_all out (e ∷ es) = assigned_all (assigned out e) es

-- the parent takes a task's text, and what it allowed
abbrev pub joined : Outcome → Task → Outcome
joined out task = record { env = allow task.env.allowed out.env; text = out.text ++ task.text }

-- tasks in order
abbrev pub joined_all : Outcome → List Task → Outcome
joined_all out [] = out
joined_all out (t ∷ ts) = joined_all (joined out t) ts

-- what the tasks give, in task order
abbrev pub given_by : List Task → List Entry
given_by [] = []
given_by (t ∷ ts) = t.gives ++ given_by ts

-- a fork whose tasks have run: first their texts, then what they give
abbrev pub ended : Outcome → List Task → Outcome
ended out tasks = assigned_all (joined_all out tasks) (given_by tasks)

-- a fork whose captures are made
abbrev pub run_forked : Environment → List Shape → Forked → List TaskBlock → Outcome
run_forked env shapes f tasks = ended (record { env = renamed f.parent env; text = f.text }) (tasks_run shapes f.tasks tasks)

-- `fork`, its tasks and its `end`
abbrev pub fork_in : Environment → List Shape → List TaskBlock → Outcome
fork_in env shapes tasks = run_forked env shapes (forked (record { parent = env.names; text = []; tasks = [] }) tasks) tasks
