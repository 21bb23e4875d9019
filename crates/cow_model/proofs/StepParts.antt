-- What holds of each part that a statement on values is made of holds of the statement.
use Rattle.std.proofs.Common.{Option, Some, None}
use Rattle.cow_model.specs.declared.outcome.Environment.{Environment}
use Rattle.cow_model.specs.declared.outcome.Outcome.{Outcome}
use Rattle.cow_model.specs.declared.value.Plain.{Plain}
use Rattle.cow_model.specs.Changes.{changed_name, changed_names, asked_name, asked_names, query_of, query_both_of}
use Rattle.cow_model.specs.Lexis.{Text}
use Rattle.cow_model.specs.Query.{Told}
use Rattle.cow_model.specs.Sharing.{Layer}
use Rattle.cow_model.specs.Step.{quiet, ask, ask_both, turned, turned_by, asking_both, asking_one, changing_two, changing_one, changing}
use Rattle.cow_model.specs.Turns.{turn_of}

-- R of each part: where nothing changes, where values are read, and where one is changed by a row of the table
pub record Parts (R : Outcome → Type 0) (env : Environment) : Type 0 where
  pub still : R (quiet env)
  pub asks : (name : Text) (tells : Plain → Told) → R (ask env name tells)
  pub asks_both : (name other : Text) (tells : Plain → Plain → Told) → R (ask_both env name other tells)
  pub turns : (s : Layer) (name : Text) → R (turned env name (turn_of s))
  pub turns_by : (s : Layer) (name other : Text) → R (turned_by env name other s)

module _ (R : Outcome → Type 0) (env : Environment) (parts : Parts R env) (s : Layer) where
  -- by the names that a statement is run on: one that reads two values
  asking_both-holds : (names : Option (Text × Text)) → R (asking_both env s names)
  asking_both-holds (Some (n, m)) = parts.asks_both n m (query_both_of s)
  asking_both-holds None = parts.still

  -- one that reads one value
  asking_one-holds : (name : Option Text) → R (asking_one env s name)
  asking_one-holds (Some n) = parts.asks n (query_of s)
  asking_one-holds None = asking_both-holds (asked_names s)

  -- one that changes a value by another
  changing_two-holds : (names : Option (Text × Text)) → R (changing_two env s names)
  changing_two-holds (Some (n, m)) = parts.turns_by s n m
  changing_two-holds None = asking_one-holds (asked_name s)

  -- one that changes one value
  changing_one-holds : (name : Option Text) → R (changing_one env s name)
  changing_one-holds (Some n) = parts.turns s n
  changing_one-holds None = changing_two-holds (changed_names s)

  -- a statement that changes a value, or reads
  pub changing-holds : R (changing env s)
  changing-holds = changing_one-holds (changed_name s)
