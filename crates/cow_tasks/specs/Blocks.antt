-- Statements and blocks of the whole language: what they rely on, and what they do.
use Rattle.std.specs.Prelude.{◌≡◌, ℕ, ◌+◌, ◌*◌, ◌≤◌, ◌^◌, ◌++◌, Bool, true, false, ◌||◌, List, [], ◌∷◌, All, length, Option, None, ⊤, Result, IsOk, OnOk, OnErr}
use Rattle.std.specs.Option.{option_or}
use Rattle.cow_model.specs.Fronts.{GrowsWithin}
use Rattle.cow_model.specs.Lexis.{Text}
use Rattle.cow_model.specs.Purse.{Purse, RisesWithin}
use Rattle.cow_model.specs.Run.{env_after, text_from}
use Rattle.cow_model.specs.Sharing.{Layer}
use Rattle.cow_model.specs.declared.memory.NoMemory.{NoMemory}
use Rattle.cow_model.specs.declared.outcome.Environment.{Environment}
use Rattle.cow_model.specs.declared.outcome.Outcome.{Outcome}
use Rattle.cow_model.specs.declared.plain.Literal.{Literal}
use Rattle.cow_model.specs.declared.shape.Shape.{Shape}
use Rattle.cow_model.specs.declared.statement.Statement.{Statement, out-Statement}
use Rattle.cow_model.specs.declared.statement.Statement.TheOpen.{Statement-F}
use Rattle.cow_model.specs.declared.statement.TaskBlock.{TaskBlock, out-TaskBlock}
use Rattle.cow_value.specs.Built.{is_built, unbuilt_at}
use Rattle.cow_eval.specs.Entries.{most_units}
use Rattle.cow_eval.specs.Envs.{SeenEnv, Balances, IsBare, env_of}
use Rattle.cow_eval.specs.Statements.{IsRunnable}

-- ---- the parts of a fork

-- the statements of a task
abbrev pub statements_in : TaskBlock → List Statement
statements_in task = (out-TaskBlock task).statements

-- how many captures a task has
abbrev pub captures_in : TaskBlock → ℕ
captures_in task = length (out-TaskBlock task).captures

-- the tasks of a fork; any other statement has none
abbrev pub tasks_in : Layer → List TaskBlock
tasks_in (Statement-F.Fork l tasks) = tasks
tasks_in s = []

-- whether a statement is a fork
abbrev pub is_fork : Layer → Bool
is_fork (Statement-F.Fork l tasks) = true
is_fork s = false

-- whether there is a fork among statements
abbrev pub has_fork : List Statement → Bool
has_fork [] = false
has_fork (s ∷ ss) = is_fork (out-Statement s) || has_fork ss

-- how many statements tasks have together
abbrev pub count_tasks : List TaskBlock → ℕ
count_tasks [] = 0
count_tasks (t ∷ ts) = length (statements_in t) + count_tasks ts

-- how many captures tasks have together
abbrev pub count_captures : List TaskBlock → ℕ
count_captures [] = 0
count_captures (t ∷ ts) = captures_in t + count_captures ts

-- a statement, and those of its tasks
abbrev pub count_of : Layer → ℕ
count_of s = 1 + count_tasks (tasks_in s)

-- how many statements there are, those of tasks among them
abbrev pub count_in : List Statement → ℕ
count_in [] = 0
count_in (s ∷ ss) = count_of (out-Statement s) + count_in ss

-- ---- what is relied on

-- a task of a script whose statements can be run
abbrev pub IsRunnableTask : TaskBlock → Type 0
IsRunnableTask task = All (λ s. IsRunnable (out-Statement s)) (statements_in task)

-- tasks of a fork of a script: at most 16, with fewer captures than a script has bytes
pub record AreRunnable (tasks : List TaskBlock) : Type 0 where
  pub statements : All IsRunnableTask tasks
  pub few : length tasks ≤ 16
  pub captures : count_captures tasks ≤ 2 ^ 21

-- a statement can be run, beside its tasks: a lazy one always
abbrev pub IsRunnableAlone : Layer → Type 0
IsRunnableAlone (Statement-F.Lazy l n i verb) = ⊤
IsRunnableAlone s = IsRunnable s

-- a statement of the main block of a script that can be run
pub record IsRunnableLayer (s : Layer) : Type 0 where
  pub itself : IsRunnableAlone s
  pub tasks : AreRunnable (tasks_in s)

-- the tasks of a fork of n statements in all have the units for all of them each, and so has their parent
abbrev pub HasParts : ℕ → Purse → Type 0
HasParts n h = 17 * (2 ^ 39 + n * most_units) ≤ h.spare

-- ---- what is done

-- what n statements do that the definitions give this outcome, those of forks' tasks counted; want of memory leaves the text so that `stays` holds, and a fork that it stops may leave units with its tasks
pub record Performs (counted : Literal → Bool) (brings_none : Type 0) (forks : Bool) (n : ℕ) (outcome : Outcome) (stays : Type 0)
    (before after : SeenEnv) (said said' : Text) (h h' : Purse) (r : Result ⊤ NoMemory) : Type 0 where
  pub env : OnOk r (env_of after ≡ outcome.env)
  pub text : OnOk r (said' ≡ said ++ outcome.text)
  pub kept : OnErr r stays
  pub most : OnErr r (after.allowed ≤ outcome.env.allowed)
  pub copied : RisesWithin before.allowed after.allowed h h'
  pub falls : (forks ≡ true → IsOk r) → h.spare ≤ h'.spare + n * most_units
  pub bare : IsBare counted before.names → brings_none → OnOk r (Balances counted 0 before.names after.names h h')

-- the text after want of memory: a fork leaves a front of what it would have printed, any other statement nothing
abbrev pub stays_of : Layer → Outcome → Text → Text → Type 0
stays_of (Statement-F.Fork l tasks) outcome said said' = GrowsWithin said said' outcome.text
stays_of s outcome said said' = said' ≡ said

-- what statements in turn leave and print, with rules of these shapes
abbrev pub outcome_of : Environment → List Shape → List Statement → Outcome
outcome_of env shapes ss = record { env = env_after env shapes ss; text = text_from env shapes ss }

-- ---- the first line that isn't built

-- among the statements of a task
abbrev pub unbuilt_in_task : List Statement → Option ℕ
unbuilt_in_task [] = None
unbuilt_in_task (s ∷ ss) = option_or (unbuilt_at (out-Statement s)) (unbuilt_in_task ss)

-- among tasks
abbrev pub unbuilt_in_tasks : List TaskBlock → Option ℕ
unbuilt_in_tasks [] = None
unbuilt_in_tasks (t ∷ ts) = option_or (unbuilt_in_task (statements_in t)) (unbuilt_in_tasks ts)

-- a statement's own, or that of its tasks; a lazy statement stands outside of forks, and there it is built
abbrev pub unbuilt_in : Layer → Option ℕ
unbuilt_in (Statement-F.Lazy l n i verb) = None
unbuilt_in s = option_or (unbuilt_at s) (unbuilt_in_tasks (tasks_in s))

-- the line of the first statement that isn't built
abbrev pub unbuilt_line : List Statement → Option ℕ
unbuilt_line [] = None
unbuilt_line (s ∷ ss) = option_or (unbuilt_in (out-Statement s)) (unbuilt_line ss)

-- a statement is built
abbrev pub IsBuiltStep : Statement → Type 0
IsBuiltStep s = is_built (out-Statement s) ≡ true

-- and so are all of a task
abbrev pub IsBuiltTask : TaskBlock → Type 0
IsBuiltTask t = All IsBuiltStep (statements_in t)

-- a statement is built, beside its tasks
abbrev pub IsBuiltAlone : Layer → Type 0
IsBuiltAlone (Statement-F.Lazy l n i verb) = ⊤
IsBuiltAlone s = is_built s ≡ true

-- a statement is built, and its tasks are
abbrev pub IsBuilt : Statement → Type 0
IsBuilt s = IsBuiltAlone (out-Statement s) × All IsBuiltTask (tasks_in (out-Statement s))
