-- What contracts see of a task, and what its statements do.
use Rattle.std.specs.Prelude.{◌≡◌, ℕ, ◌+◌, ◌*◌, ◌≤◌, ◌^◌, Bool, List, [], All, length, map, ⊤, Result, OnOk, OnErr}
use Rattle.cow_model.specs.Atoms.{IsBareStep}
use Rattle.cow_model.specs.Fork.{task_run}
use Rattle.cow_model.specs.Fronts.{IsFrontOf}
use Rattle.cow_model.specs.Lexis.{Text}
use Rattle.cow_model.specs.Purse.{Purse, RisesWithin}
use Rattle.cow_model.specs.declared.fork.Task.{Task}
use Rattle.cow_model.specs.declared.memory.NoMemory.{NoMemory}
use Rattle.cow_model.specs.declared.plain.Literal.{Literal}
use Rattle.cow_model.specs.declared.statement.Statement.{Statement, out-Statement}
use Rattle.cow_eval.specs.Entries.{SeenEntry, entry_of, most_units}
use Rattle.cow_eval.specs.Envs.{SeenEnv, AreNear, CanRun, Costs, IsBare, env_of}
use Rattle.cow_eval.specs.Statements.{IsRunnable}

-- a task before it runs: its statements, its names, and its holder
pub record SeenTask : Type 0 where
  pub statements : List Statement
  pub env : SeenEnv
  pub h : Purse

-- what a task hands over
pub record SeenOut : Type 0 where
  pub text : Text
  pub gives : List SeenEntry
  pub h : Purse
  pub allowed : ℕ
  pub outcome : Result ⊤ NoMemory

-- its statements are those of a script, and all of them may be run
pub record IsReady (t : SeenTask) : Type 0 where
  pub statements : All (λ s. IsRunnable (out-Statement s)) t.statements
  pub can_run : CanRun (length t.statements) t.env t.h

-- the task of the definitions that has come to these names, this text and these gives
abbrev pub task_at : SeenEnv → Text → List SeenEntry → Task
task_at env text gives = record { env = env_of env; text = text; gives = map entry_of gives }

-- the task of the definitions at its end
abbrev pub end_of : SeenTask → Task
end_of t = task_run [] (task_at t.env [] []) t.statements

-- names and other entries stay bare, and units and both add up to as many as before
pub record BalancesBoth (counted : Literal → Bool) (a a' b b' : List SeenEntry) (h h' : Purse) : Type 0 where
  pub first : IsBare counted a'
  pub second : IsBare counted b'
  pub sum : h'.spare + (length a' + length b') ≡ h.spare + (length a + length b)

-- what n statements of a task do, of which the definitions say `end`; want of memory leaves a front of its text
pub record Works (counted : Literal → Bool) (brings_none : Type 0) (n : ℕ) (end : Task) (before after : SeenEnv)
    (gives gives' : List SeenEntry) (said said' : Text) (h h' : Purse) (r : Result ⊤ NoMemory) : Type 0 where
  pub done : OnOk r (task_at after said' gives' ≡ end)
  pub kept : OnErr r (IsFrontOf said' end.text)
  pub most : after.allowed ≤ end.env.allowed
  pub rises : after.allowed ≤ before.allowed + n * most_units
  pub costs : Costs 0 n before after h h'
  pub next : (m : ℕ) → CanRun (m + n) before h → OnOk r (CanRun m after h')
  pub near : (m : ℕ) → m + n ≤ 2 ^ 30 → AreNear (m + n) before.names → AreNear (m + n) gives → OnOk r (AreNear m after.names × AreNear m gives')
  -- handles that are given are still the task's
  pub bare : IsBare counted before.names → IsBare counted gives → brings_none →
      OnOk r (BalancesBoth counted before.names after.names gives gives' h h')

-- what a task may hand over
pub record Ends (counted : Literal → Bool) (t : SeenTask) (out : SeenOut) : Type 0 where
  pub text : OnOk out.outcome (out.text ≡ (end_of t).text)
  pub kept : OnErr out.outcome (IsFrontOf out.text (end_of t).text)
  pub gives : OnOk out.outcome (map entry_of out.gives ≡ (end_of t).gives)
  pub allowed : OnOk out.outcome (out.allowed ≡ (end_of t).env.allowed)
  pub most : out.allowed ≤ (end_of t).env.allowed
  pub rises : out.allowed ≤ t.env.allowed + length t.statements * most_units
  pub copied : RisesWithin t.env.allowed out.allowed t.h out.h
  pub falls : t.h.spare ≤ out.h.spare + length t.statements * most_units
  pub near : (m : ℕ) → m + length t.statements ≤ 2 ^ 30 → AreNear (m + length t.statements) t.env.names → OnOk out.outcome (AreNear m out.gives)
  pub bare : IsBare counted t.env.names → All (λ s. IsBareStep counted (out-Statement s)) t.statements →
      OnOk out.outcome (IsBare counted out.gives × (out.h.spare + length out.gives ≡ t.h.spare + length t.env.names))
