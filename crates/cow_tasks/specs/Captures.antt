-- What captures do to the names of a parent and of its tasks.
use Rattle.std.specs.Prelude.{◌≡◌, ℕ, ◌+◌, ◌*◌, ◌≤◌, Bool, true, false, List, [], All, length, map, sum_by, ⊤, Result, OnOk, OnErr}
use Rattle.cow_model.specs.Env.{start_with}
use Rattle.cow_model.specs.Fork.{forked}
use Rattle.cow_model.specs.Fronts.{IsFrontOf}
use Rattle.cow_model.specs.Lexis.{Text}
use Rattle.cow_model.specs.Purse.{Purse, part}
use Rattle.cow_model.specs.declared.fork.Captured.{Captured}
use Rattle.cow_model.specs.declared.fork.Forked.{Forked}
use Rattle.cow_model.specs.declared.memory.NoMemory.{NoMemory}
use Rattle.cow_model.specs.declared.plain.Literal.{Literal}
use Rattle.cow_model.specs.declared.statement.Capture.{Capture}
use Rattle.cow_model.specs.declared.statement.TaskBlock.{TaskBlock}
use Rattle.cow_eval.specs.Envs.{AreNear, SeenEnv, IsBare, env_of}
use Rattle.cow_tasks.specs.Blocks.{statements_in, count_captures}
use Rattle.cow_tasks.specs.Tasks.{SeenTask, BalancesBoth}

-- the captures of the definitions that have come to these names and this text
abbrev pub captured_at : SeenEnv → SeenEnv → Text → Captured
captured_at parent task text = record { parent = (env_of parent).names; names = (env_of task).names; text = text }

-- those of a task that has none yet
abbrev pub captured_start : SeenEnv → Text → Captured
captured_start parent text = record { parent = (env_of parent).names; names = []; text = text }

-- a capture of a second value
abbrev pub copying : Text → Capture
copying name = record { moves = false; name = name }

-- and of the whole value
abbrev pub moving : Text → Capture
moving name = record { moves = true; name = name }

-- the fork of the definitions whose tasks have come to be these
abbrev pub forked_at : SeenEnv → List SeenTask → Text → Forked
forked_at parent tasks text = record { parent = (env_of parent).names; text = text; tasks = map (λ t. (env_of t.env).names) tasks }

-- room and allowance stay
pub record KeepsRest (before after : SeenEnv) : Type 0 where
  pub room : after.room ≡ before.room
  pub allowed : after.allowed ≡ before.allowed

-- what n captures do, of which the definitions say `end`; want of memory leaves a front of its text
pub record Captures (counted : Literal → Bool) (n : ℕ) (end : Captured) (parent parent' task task' : SeenEnv)
    (said said' : Text) (h h' : Purse) (r : Result ⊤ NoMemory) : Type 0 where
  pub done : OnOk r (captured_at parent' task' said' ≡ end)
  pub kept : OnErr r (IsFrontOf said' end.text)
  pub grows : IsFrontOf said said'
  pub of_parent : KeepsRest parent parent'
  pub of_task : OnOk r (KeepsRest task task')
  pub copied : h'.copied ≡ h.copied
  pub falls : h.spare ≤ h'.spare + n
  pub near : (m : ℕ) → AreNear m parent.names → AreNear m task.names → OnOk r (AreNear m parent'.names × AreNear m task'.names)
  pub bare : IsBare counted parent.names → IsBare counted task.names →
      OnOk r (BalancesBoth counted parent.names parent'.names task.names task'.names h h')

-- a task at its start has the whole room, nothing allowed yet, and so many units
pub record IsStart (share : ℕ) (t : SeenTask) : Type 0 where
  pub env : env_of t.env ≡ start_with (env_of t.env).names
  pub h : t.h ≡ part share

-- the captures of one task, of which the definitions say `end`
pub record MakesOne (counted : Literal → Bool) (share n : ℕ) (end : Captured) (parent parent' : SeenEnv) (said said' : Text)
    (h h' : Purse) (t : SeenTask) : Type 0 where
  pub done : captured_at parent' t.env said' ≡ end
  pub start : IsStart share t
  pub falls : h.spare ≤ h'.spare + share + n
  pub near : (m : ℕ) → AreNear m parent.names → AreNear m parent'.names × AreNear m t.env.names
  pub bare : IsBare counted parent.names → IsBare counted parent'.names × IsBare counted t.env.names
      × (h'.spare + share + length parent'.names + length t.env.names ≡ h.spare + length parent.names)

-- the tasks of a fork with their captures
pub record Makes (counted : Literal → Bool) (share : ℕ) (blocks : List TaskBlock) (parent parent' : SeenEnv) (said said' : Text)
    (h h' : Purse) (tasks : List SeenTask) : Type 0 where
  pub done : forked_at parent' tasks said' ≡ forked (forked_at parent [] said) blocks
  pub statements : map (λ t. t.statements) tasks ≡ map statements_in blocks
  pub start : All (IsStart share) tasks
  pub falls : h.spare ≤ h'.spare + share * length blocks + count_captures blocks
  pub near : (m : ℕ) → AreNear m parent.names → AreNear m parent'.names × All (λ t. AreNear m t.env.names) tasks
  pub bare : IsBare counted parent.names → IsBare counted parent'.names × All (λ t. IsBare counted t.env.names) tasks
      × (h'.spare + sum_by (λ t. share + length t.env.names) tasks + length parent'.names ≡ h.spare + length parent.names)

-- what captures leave, after want of memory too: the text only grows, and they copy nothing and allow nothing
pub record Free (parent parent' : SeenEnv) (said said' : Text) (h h' : Purse) : Type 0 where
  pub grows : IsFrontOf said said'
  pub rest : KeepsRest parent parent'
  pub copied : h'.copied ≡ h.copied
