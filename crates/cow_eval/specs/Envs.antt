-- What contracts see of an environment over counted values, and what statements do to it.
use Rattle.std.specs.Prelude.{◌≡◌, ℕ, ◌+◌, ◌*◌, ◌≤◌, ◌^◌, ◌++◌, Bool, List, [], All, length, map, get_or, set, ⊤, Option, Some, None, Result, OnOk, OnErr}
use Rattle.cow_model.specs.Env as model
use Rattle.cow_model.specs.Env.{shared, without, renamed}
use Rattle.cow_model.specs.Lexis.{Text}
use Rattle.cow_model.specs.Plain.{stop}
use Rattle.cow_model.specs.Purse.{Purse, RisesWithin}
use Rattle.cow_model.specs.Sharing.{Layer, both_cost_of}
use Rattle.cow_model.specs.Step.{settles}
use Rattle.cow_model.specs.Turns.{turn_by_of, added_of, alone_after}
use Rattle.cow_model.specs.declared.memory.NoMemory.{NoMemory}
use Rattle.cow_model.specs.declared.plain.Literal.{Literal}
use Rattle.cow_model.specs.declared.outcome.Entry.{Entry}
use Rattle.cow_model.specs.declared.outcome.Environment.{Environment}
use Rattle.cow_model.specs.declared.outcome.Outcome.{Outcome}
use Rattle.cow_model.specs.declared.refusal.Refusal.{Refusal}
use Rattle.cow_value.specs.Seen.{units}
use Rattle.cow_eval.specs.Entries.{SeenEntry, IsKept, Changes, EntryCosts, allowed_for, entry_of, most_units}

-- the names of a block in their order, the bytes that `show` may still print, and the copies that are allowed so far
pub record SeenEnv : Type 0 where
  pub names : List SeenEntry
  pub room : ℕ
  pub allowed : ℕ

-- the environment of the definitions
abbrev pub env_of : SeenEnv → Environment
env_of env = record { names = map entry_of env.names; room = env.room; allowed = env.allowed }

-- the entry of a name
abbrev pub entry_in : Text → SeenEnv → Option Entry
entry_in name env = model.entry_of name (env_of env).names

-- no storage of these names holds a unit
abbrev pub IsBare : (Literal → Bool) → List SeenEntry → Type 0
IsBare counted names = All (λ e. units counted e.seen ≡ 0) names

-- bare names stay so, and the units that are left and the names add up to as many as before, and `more`
pub record Balances (counted : Literal → Bool) (more : ℕ) (before after : List SeenEntry) (h h' : Purse) : Type 0 where
  pub bare : IsBare counted after
  pub sum : h'.spare + length after ≡ h.spare + length before + more

-- the name isn't there, and nothing has changed
pub record LacksName (name : Text) (before after : SeenEnv) : Type 0 where
  pub lacks : entry_in name before ≡ None
  pub kept : after ≡ before

-- a second value of a name, in an entry of that name: neither is alone
pub record Lends (counted : Literal → Bool) (name : Text) (before after : SeenEnv) (lent : SeenEntry) : Type 0 where
  pub whole : Entry
  pub found : entry_in name before ≡ Some whole
  pub named : whole.name ≡ name
  pub copy : entry_of lent ≡ shared whole
  pub rest : env_of after ≡ settles name (env_of before)
  pub as_many : length after.names ≡ length before.names
  pub bare : IsBare counted before.names → IsBare counted after.names × (units counted lent.seen ≡ 0)

-- a name is taken out with its value and flag
pub record Parts (counted : Literal → Bool) (name : Text) (before after : SeenEnv) (gone : SeenEntry) : Type 0 where
  pub found : entry_in name before ≡ Some (entry_of gone)
  pub named : gone.name ≡ name
  pub rest : env_of after ≡ renamed (without name (env_of before).names) (env_of before)
  pub fewer : length after.names + 1 ≡ length before.names
  pub bare : IsBare counted before.names → IsBare counted after.names × (units counted gone.seen ≡ 0)

-- what n statements cost that have so many literals: no more copies are made than those and what is allowed besides, and few units are used
pub record Costs (literals n : ℕ) (before after : SeenEnv) (h h' : Purse) : Type 0 where
  pub copied : RisesWithin before.allowed (literals + after.allowed) h h'
  pub falls : h.spare ≤ h'.spare + n * most_units

-- what n statements do that the definitions give this outcome; want of memory leaves the text so that `stays` holds
pub record Does (counted : Literal → Bool) (brings_none : Type 0) (literals n : ℕ) (outcome : Outcome) (stays : Type 0)
    (before after : SeenEnv) (said said' : Text) (h h' : Purse) (r : Result ⊤ NoMemory) : Type 0 where
  pub env : OnOk r (env_of after ≡ outcome.env)
  pub text : OnOk r (said' ≡ said ++ outcome.text)
  pub kept : OnErr r stays
  pub most : OnErr r (after.allowed ≤ outcome.env.allowed)
  pub costs : Costs literals n before after h h'
  pub bare : IsBare counted before.names → brings_none → OnOk r (Balances counted 0 before.names after.names h h')

-- what one statement does: want of memory leaves the text as it was
abbrev pub Runs : (Literal → Bool) → (brings_none : Type 0) → ℕ → Outcome → (before after : SeenEnv) → (said said' : Text) → (h h' : Purse) →
    Result ⊤ NoMemory → Type 0
Runs counted brings_none literals outcome before after said said' h h' r =
    Does counted brings_none literals 1 outcome (said' ≡ said) before after said said' h h' r

-- a line that is no longer than the room was appended, and this much is left
pub record Fits (line : Text) (room left : ℕ) (said said' : Text) : Type 0 where
  pub text : said' ≡ said ++ line
  pub rest : left + length line ≡ room

-- what a statement does that only reads values and sets flags: nothing is copied, and no units are used
pub record Reads (outcome : Outcome) (before after : SeenEnv) (said said' : Text) (r : Result ⊤ NoMemory) : Type 0 where
  pub env : OnOk r (env_of after ≡ outcome.env)
  pub text : OnOk r (said' ≡ said ++ outcome.text)
  pub kept : OnErr r (said' ≡ said)
  pub allowed : after.allowed ≡ before.allowed
  pub values : map (λ e. e.seen) after.names ≡ map (λ e. e.seen) before.names

-- a change of the value at one place by that at another: no other entry changes, and nothing is printed
pub record ChangesBy (counted : Literal → Bool) (s : Layer) (at by : ℕ) (before after : List SeenEntry) (h h' : Purse)
    (r : Result (Result ⊤ Refusal) NoMemory) : Type 0 where
  pub old : SeenEntry
  pub other : SeenEntry
  pub new : SeenEntry
  pub old_is : old ≡ get_or before at old
  pub other_is : other ≡ get_or before by other
  pub names : after ≡ set before at new
  pub kept : IsKept new
  pub does : Changes (alone_after (turn_by_of s other.seen.value) old.flag old.seen.value)
      ((turn_by_of s other.seen.value).run old.seen.value) old new [] [] r
  pub costs : EntryCosts counted (allowed_for (both_cost_of old.flag old.seen.value + added_of s other.seen.value)
      ((turn_by_of s other.seen.value).run old.seen.value)) (units counted other.seen ≡ 0) old new h h'

-- no slice among them stops so close to 2^31 that n more elements would not fit
abbrev pub AreNear : ℕ → List SeenEntry → Type 0
AreNear n entries = All (λ e. stop e.seen.value + n ≤ 2 ^ 31) entries

-- n statements may be run: what is allowed stays a number of 64 bits, no slice stops at 2^31, and the units are there
pub record CanRun (n : ℕ) (env : SeenEnv) (h : Purse) : Type 0 where
  pub few : n ≤ 2 ^ 30
  pub allowed : env.allowed + n * most_units ≤ 2 ^ 63 + most_units
  pub near : AreNear n env.names
  pub spare : 2 ^ 39 + n * most_units ≤ h.spare

-- one statement may be run whose literals are allowed already
pub record CanAct (env : SeenEnv) (h : Purse) : Type 0 where
  pub allowed : env.allowed ≤ 2 ^ 63 + most_units
  pub near : AreNear 1 env.names
  pub spare : 2 ^ 39 + most_units ≤ h.spare
