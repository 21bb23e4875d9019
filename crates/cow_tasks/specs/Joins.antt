-- What a parent takes of its tasks at the join.
use Rattle.std.specs.Prelude.{◌≡◌, ℕ, ◌+◌, ◌≤◌, ◌++◌, Bool, List, [], ◌∷◌, All, length, flat_map, sum_by, ⊤, Result, IsOk, OnOk, OnErr}
use Rattle.cow_model.specs.Fronts.{IsFrontOf, GrowsWithin}
use Rattle.cow_model.specs.Lexis.{Text}
use Rattle.cow_model.specs.Purse.{Purse}
use Rattle.cow_model.specs.declared.memory.NoMemory.{NoMemory}
use Rattle.cow_model.specs.declared.outcome.Outcome.{Outcome}
use Rattle.cow_model.specs.declared.plain.Literal.{Literal}
use Rattle.cow_eval.specs.Entries.{SeenEntry}
use Rattle.cow_eval.specs.Envs.{AreNear, SeenEnv, Balances, IsBare, env_of}
use Rattle.cow_tasks.specs.Tasks.{SeenOut}

-- the text of a task is this one, or a front of it after want of memory
pub record Tells (o : SeenOut) (whole : Text) : Type 0 where
  pub text : OnOk o.outcome (o.text ≡ whole)
  pub kept : OnErr o.outcome (IsFrontOf o.text whole)

-- so of each task
abbrev pub AllTell : List SeenOut → List Text → Type 0
AllTell [] [] = ⊤
AllTell [] (w ∷ wholes) = ⊥
AllTell (o ∷ outs) [] = ⊥
AllTell (o ∷ outs) (w ∷ wholes) = Tells o w × AllTell outs wholes

-- a text grew by a front of what tasks would have printed together
abbrev pub StopsIn : List SeenOut → Text → Text → Type 0
StopsIn outs said said' = (wholes : List Text) → AllTell outs wholes → GrowsWithin said said' (flat_map (λ w. w) wholes)

-- what is taken in of tasks, where none ran out of memory
pub record TakesIn (outs : List SeenOut) (said said' : Text) (gives : List SeenEntry) : Type 0 where
  pub ok : All (λ o. IsOk o.outcome) outs
  pub text : said' ≡ said ++ flat_map (λ o. o.text) outs
  pub given : gives ≡ flat_map (λ o. o.gives) outs

-- units and copies of tasks come to their parent's holder, and what they were allowed to its environment
pub record Joins (outs : List SeenOut) (before after : SeenEnv) (h h' : Purse) : Type 0 where
  pub spare : h'.spare ≡ h.spare + sum_by (λ o. o.h.spare) outs
  pub copied : h'.copied ≤ h.copied + sum_by (λ o. o.h.copied) outs
  pub kept : h.copied ≤ h'.copied
  pub names : after.names ≡ before.names
  pub room : after.room ≡ before.room
  pub allowed : after.allowed ≡ before.allowed + sum_by (λ o. o.allowed) outs

-- the outcome of the definitions that has come to this environment and this text
abbrev pub outcome_at : SeenEnv → Text → Outcome
outcome_at env text = record { env = env_of env; text = text }

-- what it does to assign these entries, of which the definitions say `end`; want of memory leaves a front of its text
pub record Assigns (counted : Literal → Bool) (gives : List SeenEntry) (end : Outcome) (before after : SeenEnv)
    (said said' : Text) (h h' : Purse) (r : Result ⊤ NoMemory) : Type 0 where
  pub done : OnOk r (outcome_at after said' ≡ end)
  pub kept : OnErr r (IsFrontOf said' end.text)
  pub grows : IsFrontOf said said'
  pub allowed : after.allowed ≡ before.allowed
  pub copied : h'.copied ≡ h.copied
  pub falls : h.spare ≤ h'.spare
  pub near : (m : ℕ) → AreNear m before.names → AreNear m gives → OnOk r (AreNear m after.names)
  pub bare : IsBare counted before.names → IsBare counted gives → OnOk r (Balances counted (length gives) before.names after.names h h')
