-- How often statements ask rules. Lazy statements alone do, and those stand outside of forks.
use Rattle.std.specs.Prelude.{ℕ, ℤ, ◌+◌, ◌==◌, List, [], ◌∷◌, length, slice_get, Option, Some, None, if◌then◌else◌}
use Rattle.cow_model.specs.Env.{entry_of}
use Rattle.cow_model.specs.Lazy.{asks}
use Rattle.cow_model.specs.Operation.{index}
use Rattle.cow_model.specs.Run.{run_one}
use Rattle.cow_model.specs.Sharing.{Layer}
use Rattle.cow_model.specs.declared.outcome.Entry.{Entry}
use Rattle.cow_model.specs.declared.outcome.Environment.{Environment}
use Rattle.cow_model.specs.declared.plain.Literal.{Literal}
use Rattle.cow_model.specs.declared.shape.Shape.{Shape}
use Rattle.cow_model.specs.declared.statement.Statement.{Statement, out-Statement}
use Rattle.cow_model.specs.declared.statement.Statement.TheOpen.{Statement-F}
use Rattle.cow_model.specs.declared.statement.Verb.{Verb}
use Rattle.cow_model.specs.declared.value.Plain.{Plain}
use Rattle.cow_model.specs.declared.value.Plain.TheVariants.{Array}
use Rattle.cow_rule.specs.Asked.{raised}

-- how often a rule of this shape, if there is one, is asked about atoms
abbrev pub asks_about : List Literal → Verb → Option Shape → ℕ
asks_about items verb None = 0
asks_about items verb (Some shape) = asks items shape verb

-- how often the rule at place k is, by a statement that names the one at `place`
abbrev pub asks_at : List Shape → Option ℕ → Verb → ℕ → List Literal → ℕ
asks_at shapes None verb k items = 0
asks_at shapes (Some place) verb k items = if k == place then asks_about items verb (slice_get shapes k) else 0

-- by a lazy statement on a value: one that isn't an array is refused
abbrev pub asks_value : List Shape → ℤ → Verb → ℕ → Plain → ℕ
asks_value shapes i verb k (Array items) = asks_at shapes (index 0 (length shapes) i) verb k items
asks_value shapes i verb k value = 0

-- on the entry of a name, if it is there
abbrev pub asks_entry : List Shape → ℤ → Verb → ℕ → Option Entry → ℕ
asks_entry shapes i verb k None = 0
asks_entry shapes i verb k (Some e) = asks_value shapes i verb k e.value

-- how often a statement asks the rule at place k
abbrev pub asks_layer : Environment → List Shape → ℕ → Layer → ℕ
asks_layer env shapes k (Statement-F.Lazy l n i verb) = asks_entry shapes i verb k (entry_of n env.names)
asks_layer env shapes k s = 0

-- how often statements in turn do
abbrev pub asks_from : Environment → List Shape → ℕ → List Statement → ℕ
asks_from env shapes k [] = 0
asks_from env shapes k (s ∷ ss) = asks_layer env shapes k (out-Statement s) + asks_from (run_one env shapes s).env shapes k ss

-- how often rules have been asked, after each was asked so often as `n` says of its place
abbrev pub raised_by : (ℕ → ℕ) → List ℕ → List ℕ
raised_by n [] = []
raised_by n (a ∷ asked) = raised (n 0) a ∷ raised_by (λ k. n (k + 1)) asked
