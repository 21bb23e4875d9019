-- What the calls on a value of any kind rely on and what they promise.
use Rattle.std.specs.Prelude.{◌≡◌, ℕ, ◌+◌, ◌*◌, ◌<◌, ◌≤◌, ◌^◌, ◌++◌, ◌⊎◌, Bool, true, Result, IsOk, IfOk, OnOk, OnErr, ⊤}
use Rattle.cow_model.specs.Answers.{verdict, is_refused, value_after, reply_of, told_verdict, told_reply}
use Rattle.cow_model.specs.Flat.{need}
use Rattle.cow_model.specs.Lexis.{Text}
use Rattle.cow_model.specs.Plain.{count, size, stop, max_count}
use Rattle.cow_model.specs.Purse.{Purse, Moves, noted}
use Rattle.cow_model.specs.Query.{Told}
use Rattle.cow_model.specs.Turns.{Turn}
use Rattle.cow_model.specs.Units.{nodes_of, units_of}
use Rattle.cow_model.specs.declared.memory.NoMemory.{NoMemory}
use Rattle.cow_model.specs.declared.plain.Literal.{Literal}
use Rattle.cow_model.specs.declared.refusal.Refusal.{Refusal}
use Rattle.cow_model.specs.declared.value.Plain.{Plain}
use Rattle.cow_value.specs.Seen.{Seen, Brings, units, copied_units}

-- what a change may rely on that brings in n atoms
pub record IsReady (n : ℕ) (v : Seen) (h : Purse) : Type 0 where
  pub small : count v.value ≤ max_count
  pub near : stop v.value < 2 ^ 31
  pub spare : need (2 * (size v.value + n) + 1) ≤ h.spare

-- what a change does to a value, by its row of the table
pub record Does (t : Turn) (before after : Seen) (text text' : Text)
    (r : Result (Result ⊤ Refusal) NoMemory) : Type 0 where
  -- it tells the definition's refusal, or that there is none
  pub told : IfOk r (λ x. x ≡ verdict (t.run before.value))
  pub value : OnOk r (after.value ≡ value_after before.value (t.run before.value))
  pub reply : OnOk r (text' ≡ text ++ reply_of (t.run before.value))
  -- want of memory changes nothing
  pub kept : OnErr r ((after.value ≡ before.value) × (text' ≡ text))
  -- a value that was alone is, and one that was changed is where the row says so
  pub alone : before.alone ≡ true → after.alone ≡ true
  pub parted : t.parts before.value ≡ true → (after.value ≡ before.value) ⊎ (after.alone ≡ true)

-- what it costs
pub record Costs (counted : Literal → Bool) (b : Brings) (t : Turn) (before after : Seen)
    (h h' : Purse) (r : Result (Result ⊤ Refusal) NoMemory) : Type 0 where
  -- a refused one is told also where there is no memory, and costs nothing
  pub free : is_refused (t.run before.value) ≡ true → IsOk r × (h' ≡ h)
  pub hidden : after.hidden ≤ before.hidden + b.units
  -- copies by the row and the atoms brought in, and units by those that are held or brought in
  pub moved : Moves (2 * units counted before + b.units)
      (t.cost before.alone before.value + b.atoms) h h'
  pub falls : h.spare ≤ h'.spare + (copied_units before.value + (b.atoms + b.nodes))

-- what a call tells of a value, of which the definition says `answer`: one whole line, or nothing
pub record Tells (answer : Told) (text text' : Text)
    (r : Result (Result ⊤ Refusal) NoMemory) : Type 0 where
  pub told : IfOk r (λ x. x ≡ told_verdict answer)
  pub reply : OnOk r (text' ≡ text ++ told_reply answer)
  pub kept : OnErr r (text' ≡ text)

-- what a new value costs that is made of n literals: each counts one copy, and it takes its handle and its units
pub record Made (counted : Literal → Bool) (value : Plain) (n : ℕ) (h h' : Purse)
    {V : Type 0} (r : Result V NoMemory) : Type 0 where
  pub copied : OnOk r (h'.copied ≡ (noted n h).copied)
  -- exactly, where it is no trie
  pub exact : nodes_of value ≡ 0 → OnOk r (h'.spare + (1 + units_of counted value) ≡ h.spare)
  pub kept : nodes_of value ≡ 0 → OnErr r (h'.spare ≡ h.spare)
  pub moved : Moves (1 + units_of counted value) n h h'
