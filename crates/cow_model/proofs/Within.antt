-- The least copies of a script are no more than the sharing rule allows it.
use Rattle.std.proofs.Common.{◌+◌, ◌≤◌, List, [], ◌∷◌, length, Bool, true, false, ℕ, arith}
use Rattle.std.specs.Prelude.{if◌then◌else◌}
use Rattle.cow_model.specs.declared.outcome.Environment.{Environment}
use Rattle.cow_model.specs.declared.shape.Shape.{Shape}
use Rattle.cow_model.specs.declared.statement.Statement.{Statement, out-Statement}
use Rattle.cow_model.specs.declared.statement.Statement.TheOpen.{Statement-F}
use Rattle.cow_model.specs.Env.{has_place, start}
use Rattle.cow_model.specs.Sharing.{Layer, literals}
use Rattle.cow_model.specs.Run.{run_layer, run_one, env_after, bound, least_layer, least_from, least}
use Rattle.cow_model.proofs.StepAllows.{step_allows}
use Rattle.cow_model.proofs.ForkAllows.{fork_allows}

-- a number, or none
number_or_none : (b : Bool) (n : ℕ) → (if b then n else 0) ≤ n
number_or_none true n = omega arith
number_or_none false n = omega arith

-- a statement makes at least no more atoms than it has literals
least_literals : (env : Environment) (s : Layer) → least_layer env s ≤ literals s
least_literals env (Statement-F.Let l n kind atoms) = number_or_none (has_place n env.names) (length atoms)
least_literals env s = omega arith

-- a statement of the main block allows its literals at least
layer_allows : (env : Environment) (shapes : List Shape) (s : Layer) → env.allowed + literals s ≤ (run_layer env shapes s).env.allowed
layer_allows env shapes (Statement-F.Fork l tasks) = omega (arith, fork_allows env shapes tasks)
layer_allows env shapes s = step_allows env shapes s

-- statements in turn allow what they make, at least
pub least_allowed : (env : Environment) (shapes : List Shape) (ss : List Statement) → env.allowed + least_from env shapes ss ≤ (env_after env shapes ss).allowed
least_allowed env shapes [] = omega arith
least_allowed env shapes (s ∷ ss) =
    omega (arith, least_literals env (out-Statement s), layer_allows env shapes (out-Statement s), least_allowed (run_one env shapes s).env shapes ss)

-- the least copies of a script are no more than the sharing rule allows it
pub least_within_bound : (ss : List Statement) (shapes : List Shape) → least ss shapes ≤ bound ss shapes
least_within_bound ss shapes = omega (arith, least_allowed start shapes ss)
