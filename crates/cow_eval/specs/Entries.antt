-- What contracts see of a name with its value, and what a statement makes of it.
use Rattle.std.specs.Prelude.{◌≡◌, ℕ, ◌+◌, ◌≤◌, ◌^◌, Bool, true, false, not, ◌&&◌, ◌++◌, ⊤, Result, Ok, Err, IsOk, IfOk, OnOk, OnErr}
use Rattle.cow_model.specs.Answers.{verdict, is_refused, reply_of}
use Rattle.cow_model.specs.Lexis.{Text}
use Rattle.cow_model.specs.Operation.{Answer}
use Rattle.cow_model.specs.Plain.{count, max_count}
use Rattle.cow_model.specs.Purse.{Purse, RisesWithin}
use Rattle.cow_model.specs.declared.memory.NoMemory.{NoMemory}
use Rattle.cow_model.specs.declared.outcome.Entry.{Entry}
use Rattle.cow_model.specs.declared.plain.Literal.{Literal}
use Rattle.cow_model.specs.declared.refusal.Refusal.{Refusal}
use Rattle.cow_model.specs.declared.value.Plain.{Plain}
use Rattle.cow_value.specs.Seen.{Seen, units}

-- a name, its value, and the flag: whether the sharing rule takes the value to be alone
pub record SeenEntry : Type 0 where
  pub name : Text
  pub seen : Seen
  pub flag : Bool

-- where the flag is true the value is alone, and no value has more than 65,536 elements
pub record IsKept (e : SeenEntry) : Type 0 where
  pub alone : e.flag ≡ true → e.seen.alone ≡ true
  pub small : count e.seen.value ≤ max_count

-- the entry of the definitions
abbrev pub entry_of : SeenEntry → Entry
entry_of e = record { name = e.name; value = e.seen.value; alone = e.flag }

-- the flag of a value beside another, which isn't alone where that is itself
abbrev pub flag_beside : Bool → Bool → Bool
flag_beside is_one flag = not is_one && flag

-- the entry after a statement, of which `alone` tells the flag: a refused one changes nothing
abbrev pub entry_after : (Plain → Bool) → Entry → Answer → Entry
entry_after alone e (Ok done) = record { name = e.name; value = done.value; alone = alone done.value }
entry_after alone e (Err why) = e

-- the flag behind a change of a value whose flag was false, of which it was told before whether it leaves the value alone
abbrev pub flag_after : Bool → Result (Result ⊤ Refusal) NoMemory → Bool
flag_after parts (Ok (Ok done)) = parts
flag_after parts (Ok (Err why)) = false
flag_after parts (Err failure) = false

-- what a change makes of an entry whose value the definition gives this answer, and of which `alone` tells the flag
pub record Changes (alone : Plain → Bool) (answer : Answer) (before after : SeenEntry) (said said' : Text)
    (r : Result (Result ⊤ Refusal) NoMemory) : Type 0 where
  pub told : IfOk r (λ x. x ≡ verdict answer)
  pub entry : OnOk r (entry_of after ≡ entry_after alone (entry_of before) answer)
  pub reply : OnOk r (said' ≡ said ++ reply_of answer)
  pub kept : OnErr r (said' ≡ said)
  pub free : is_refused answer ≡ true → IsOk r

-- the copies that are allowed for a change, which may make so many: none where it is refused
abbrev pub allowed_for : ℕ → Answer → ℕ
allowed_for n (Ok done) = n
allowed_for n (Err why) = 0

-- the units that a statement uses at most
abbrev pub most_units : ℕ
most_units = 2 ^ 22

-- what a change of an entry costs that may make n copies; it stays bare where it brings nothing in that takes a unit
pub record EntryCosts (counted : Literal → Bool) (n : ℕ) (brings_none : Type 0) (before after : SeenEntry)
    (h h' : Purse) : Type 0 where
  pub copied : RisesWithin 0 n h h'
  pub falls : h.spare ≤ h'.spare + most_units
  pub bare : brings_none → units counted before.seen ≡ 0 →
      (units counted after.seen ≡ 0) × (h'.spare ≡ h.spare)
