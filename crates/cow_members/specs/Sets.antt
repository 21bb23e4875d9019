-- The words in which contracts speak of sets. A set is the ascending list of its members.
use Rattle.std.specs.Prelude.{◌≡◌, ℕ, ◌+◌, ◌≤◌, ◌⊎◌, Bool, true, false, not, List, [], ◌∷◌, length, map, count_by, Option, Some, None, Result, IsOk, if◌then◌else◌}
use Rattle.cow_cell.specs.declared.counted.Counted.{Counted}
use Rattle.cow_members.specs.Members.{MembersView}
use Rattle.cow_model.specs.Flat.{Flat, copies, need}
use Rattle.cow_model.specs.Members.{member, minus}
use Rattle.cow_model.specs.Purse.{Purse, Moves, more}
use Rattle.cow_model.specs.declared.plain.Literal.{Literal}

-- the member that is a, if there is one
abbrev pub found : Literal → List Literal → Option Literal
found a v = if member a v then Some a else None

-- the members but a
abbrev pub without : Literal → List Literal → List Literal
without a v = minus v (a ∷ [])

-- how many members come where a is added
abbrev pub comes : Literal → List Literal → ℕ
comes a v = if member a v then 0 else 1

-- how many go where a is removed
abbrev pub goes : Literal → List Literal → ℕ
goes a v = if member a v then 1 else 0

-- whether a key that is there, or is not, is one that stays
abbrev pub stays : Bool → Bool → Bool
stays true there = there
stays false there = not there

-- the items of which it is so that the others have them, or have not
abbrev pub kept_by : Bool → List Literal → Literal → Bool
kept_by keep others a = stays keep (member a others)

-- how many of the others are no members
abbrev pub lacking : (items others : List Literal) → ℕ
lacking items others = count_by (λ a. not (member a items)) others

-- whether exactly one is so
abbrev pub either : Bool → Bool → Bool
either true b = not b
either false b = b

-- the spare is there that a change of `value` by another set asks for
abbrev pub CanPay : (value other : List Literal) → Purse → Type 0
CanPay value other h = need (length value + length other) ≤ h.spare

-- the value is v; a handle that was not left as it was is alone
pub record ChangesTo {V : Type 0} (v : V) (before after : Flat V) : Type 0 where
  pub value : after.value ≡ v
  pub handle : (after ≡ before) ⊎ (after.alone ≡ true)

-- nothing was to change: the answer is Ok, and the handle and the holder are as they were
abbrev pub Untouched : {V A E : Type 0} → Result A E → (before after : Flat V) → (h h' : Purse) → Type 0
Untouched result before after h h' = IsOk result × (after ≡ before) × (h' ≡ h)

module _ {K Q : Type 0} (plain : K → Literal) (is_counted : Literal → Bool) where
  -- the units of the keys that a handle shows
  abbrev pub held : Counted (MembersView K) Q → ℕ
  held c = count_by is_counted (map plain c.value.keys.items)

  -- a change costs, for which n copies are made where the handle is not alone: spare moves by at most the units of the keys held
  abbrev pub Costs : ℕ → Counted (MembersView K) Q → (h h' : Purse) → Type 0
  Costs n c h h' = Moves (held c) (copies c.alone n) h h'

  -- of an alone handle exactly the units of its keys come back
  abbrev pub GivesBack : Counted (MembersView K) Q → (h h' : Purse) → Type 0
  GivesBack c h h' = c.alone ≡ true → h' ≡ more (held c) h
