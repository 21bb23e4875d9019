-- What a script prints, and how many copies the sharing rule allows it: folds over its statements, on one thread.
use Rattle.std.specs.Prelude.{ℕ, ◌+◌, List, [], ◌∷◌, ◌++◌, length, if◌then◌else◌}
use Rattle.cow_model.specs.Lexis.{Text}
use Rattle.cow_model.specs.Env.{start, has_place}
use Rattle.cow_model.specs.Step.{step}
use Rattle.cow_model.specs.Fork.{fork_in}
use Rattle.cow_model.specs.declared.shape.Shape.{Shape}
use Rattle.cow_model.specs.declared.statement.Statement.{Statement, out-Statement}
use Rattle.cow_model.specs.declared.statement.TaskBlock.{TaskBlock}
use Rattle.cow_model.specs.declared.statement.Statement.TheOpen.{Statement-F}
use Rattle.cow_model.specs.declared.outcome.Environment.{Environment}
use Rattle.cow_model.specs.declared.outcome.Outcome.{Outcome}

-- a statement of the main block, opened
abbrev pub run_layer : Environment → List Shape → Statement-F Statement TaskBlock → Outcome
run_layer env shapes (Statement-F.Fork l tasks) = fork_in env shapes tasks
run_layer env shapes s = step env shapes s

-- a statement of the main block
abbrev pub run_one : Environment → List Shape → Statement → Outcome
run_one env shapes s = run_layer env shapes (out-Statement s)

-- the environment after statements in turn
abbrev pub env_after : Environment → List Shape → List Statement → Environment
env_after env shapes [] = env
env_after env shapes (s ∷ ss) = env_after (run_one env shapes s).env shapes ss

-- what statements print in turn
abbrev pub text_from : Environment → List Shape → List Statement → Text
text_from env shapes [] = []
text_from env shapes (s ∷ ss) = (run_one env shapes s).text ++ text_from (run_one env shapes s).env shapes ss

-- what a script prints
abbrev pub text_of : List Statement → List Shape → Text
text_of ss shapes = text_from start shapes ss

-- how many copies the sharing rule allows a script
abbrev pub bound : List Statement → List Shape → ℕ
bound ss shapes = (env_after start shapes ss).allowed

-- the atoms that a statement makes, at least: those of a `let` of literals that isn't refused
abbrev pub least_layer : Environment → Statement-F Statement TaskBlock → ℕ
least_layer env (Statement-F.Let l n kind atoms) = if has_place n env.names then length atoms else 0
least_layer env s = 0

-- the atoms that statements make, at least
abbrev pub least_from : Environment → List Shape → List Statement → ℕ
least_from env shapes [] = 0
least_from env shapes (s ∷ ss) = least_layer env (out-Statement s) + least_from (run_one env shapes s).env shapes ss

-- the copies that a script makes, at least
abbrev pub least : List Statement → List Shape → ℕ
least ss shapes = least_from start shapes ss
