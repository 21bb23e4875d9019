-- A fork allows no fewer copies than before.
use Rattle.std.proofs.Common.{List, [], ◌∷◌, arith}
use Rattle.cow_model.specs.declared.fork.Forked.{Forked}
use Rattle.cow_model.specs.declared.fork.Task.{Task}
use Rattle.cow_model.specs.declared.outcome.Entry.{Entry}
use Rattle.cow_model.specs.declared.outcome.Environment.{Environment}
use Rattle.cow_model.specs.declared.outcome.Outcome.{Outcome}
use Rattle.cow_model.specs.declared.shape.Shape.{Shape}
use Rattle.cow_model.specs.declared.statement.TaskBlock.{TaskBlock}
use Rattle.cow_model.specs.Env.{has_place, renamed}
use Rattle.cow_model.specs.Fork.{assigned, assigned_all, joined, joined_all, given_by, tasks_run, run_forked, forked, fork_in}
use Rattle.cow_model.proofs.StepAllows.{Allows, either_allows}

-- an entry that a task gave
assigned_allows : (env : Environment) (out : Outcome) (e : Entry) → Allows env out → Allows env (assigned out e)
assigned_allows env out e h = either_allows env (has_place e.name out.env.names) _ _ h h

-- entries in turn
assigned_all_allows : (env : Environment) (out : Outcome) (es : List Entry) → Allows env out → Allows env (assigned_all out es)
assigned_all_allows env out [] h = h
assigned_all_allows env out (e ∷ es) h = assigned_all_allows env (assigned out e) es (assigned_allows env out e h)

-- what tasks allowed is added
joined_all_allows : (env : Environment) (out : Outcome) (tasks : List Task) → Allows env out → Allows env (joined_all out tasks)
joined_all_allows env out [] h = h
joined_all_allows env out (task ∷ tasks) h = joined_all_allows env (joined out task) tasks (omega arith)

-- a fork whose captures are made
run_forked_allows : (env : Environment) (shapes : List Shape) (f : Forked) (tasks : List TaskBlock) → Allows env (run_forked env shapes f tasks)
run_forked_allows env shapes f tasks =
    let out : Outcome = record { env = renamed f.parent env; text = f.text } in
    let ends : List Task = tasks_run shapes f.tasks tasks in
    assigned_all_allows env (joined_all out ends) (given_by ends) (joined_all_allows env out ends (omega arith))

-- a fork
pub fork_allows : (env : Environment) (shapes : List Shape) (tasks : List TaskBlock) → Allows env (fork_in env shapes tasks)
fork_allows env shapes tasks = run_forked_allows env shapes (forked (record { parent = env.names; text = []; tasks = [] }) tasks) tasks
