-- Values do no lazy statement by themselves, so what they do is the same whatever rules there are. No task has a lazy
-- statement, so a fork is the same too.
use Rattle.std.proofs.Common.{◌≡◌, Bool, true, List, [], ◌∷◌, refl, ap, ◌∙◌}
use Rattle.std.specs.Prelude.{All}
use Rattle.std.proofs.lemmas.List.Elements.{All-head, All-tail}
use Rattle.cow_model.specs.Fork.{forked, fork_in, ended, stepped, task_end, task_run, task_start, task_step, tasks_run}
use Rattle.cow_model.specs.Env.{renamed}
use Rattle.cow_model.specs.Sharing.{Layer}
use Rattle.cow_model.specs.Step.{step}
use Rattle.cow_model.specs.declared.fork.Task.{Task}
use Rattle.cow_model.specs.declared.outcome.Entry.{Entry}
use Rattle.cow_model.specs.declared.outcome.Environment.{Environment}
use Rattle.cow_model.specs.declared.shape.Shape.{Shape}
use Rattle.cow_model.specs.declared.statement.Statement.{Statement, out-Statement}
use Rattle.cow_model.specs.declared.statement.Statement.TheOpen.{Statement-F}
use Rattle.cow_model.specs.declared.statement.TaskBlock.{TaskBlock}
use Rattle.cow_value.specs.Built.{is_built}
use Rattle.cow_tasks.specs.Blocks.{AreRunnable, IsBuiltStep, IsBuiltTask, statements_in}

-- a statement that values do looks at no rule
pub step-apart : (env : Environment) (shapes : List Shape) (s : Layer) → is_built s ≡ true → step env shapes s ≡ step env [] s
step-apart env shapes (Statement-F.Lazy l n i asked) is = cc
step-apart env shapes s is = refl

-- so in a task
task-step-apart : (shapes : List Shape) (task : Task) (s : Layer) → is_built s ≡ true → task_step shapes task s ≡ task_step [] task s
task-step-apart shapes task (Statement-F.Lazy l n i asked) is = cc
task-step-apart shapes task s is = refl

-- statements of a task in turn
task-run-apart : (shapes : List Shape) (task : Task) (ss : List Statement) → All IsBuiltStep ss → task_run shapes task ss ≡ task_run [] task ss
task-run-apart shapes task [] none = refl
task-run-apart shapes task (s ∷ ss) none =
    ap (λ t. task_run shapes t ss) (task-step-apart shapes task (out-Statement s) (All-head IsBuiltStep s ss none))
    ∙ task-run-apart shapes (task_step [] task (out-Statement s)) ss (All-tail IsBuiltStep s ss none)

-- the tasks at their ends
tasks-run-apart : (shapes : List Shape) (names : List (List Entry)) (ts : List TaskBlock) → All IsBuiltTask ts → tasks_run shapes names ts ≡ tasks_run [] names ts
tasks-run-apart shapes [] ts none = refl
tasks-run-apart shapes (own ∷ more) [] none = refl
tasks-run-apart shapes (own ∷ more) (t ∷ ts) none =
    rw (task-run-apart shapes (task_start own) (statements_in t) (All-head IsBuiltTask t ts none), tasks-run-apart shapes more ts (All-tail IsBuiltTask t ts none)) refl

-- a fork
pub fork-apart : (env : Environment) (shapes : List Shape) (tasks : List TaskBlock) → All IsBuiltTask tasks → fork_in env shapes tasks ≡ fork_in env [] tasks
fork-apart env shapes tasks none =
    let f = forked (record { parent = env.names; text = []; tasks = [] }) tasks in
    ap (ended (record { env = renamed f.parent env; text = f.text })) (tasks-run-apart shapes f.tasks tasks none)

-- a fork that can be run is
pub fork-runs : (env : Environment) (shapes : List Shape) (tasks : List TaskBlock) → AreRunnable tasks → fork_in env shapes tasks ≡ fork_in env [] tasks
fork-runs env shapes tasks runs = fork-apart env shapes tasks (λ i t within k s inside. (runs.statements i t within k s inside).built)
