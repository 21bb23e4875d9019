-- The words in which contracts speak of dictionaries. A dictionary is the list of its pairs by ascending key.
use Rattle.std.specs.Prelude.{◌≡◌, ℕ, ◌+◌, ◌*◌, ◌<◌, Bool, true, false, not, List, ◌++◌, filter, length, Option, Some, None, Result, OnOk, is_some, if◌then◌else◌}
use Rattle.std.specs.List.{sum_by}
use Rattle.cow_cell.specs.declared.counted.Counted.{Counted}
use Rattle.cow_dict.specs.declared.rule.Merge.{Merge}
use Rattle.cow_dict.specs.declared.rule.Merge.TheVariants.{Keep, Take}
use Rattle.cow_model.specs.Flat.{Flat, Stays, copies}
use Rattle.cow_model.specs.Order.{same}
use Rattle.cow_model.specs.Pairs.{place_in, value_in}
use Rattle.cow_model.specs.Purse.{Purse, Moves, more, unit_if}
use Rattle.cow_model.specs.declared.plain.Literal.{Literal}
use Rattle.cow_model.specs.declared.value.Pair.{Pair}
use Rattle.cow_row.specs.Changes.{HasDoubled}
use Rattle.cow_dict.specs.Storages.{PairsView, listed}

-- whether a key is there
abbrev pub has : Literal → List Pair → Bool
has a v = is_some (place_in a v)

-- the pairs but that of a
abbrev pub without : Literal → List Pair → List Pair
without a v = filter (λ p. not (same p.key a)) v

-- the pairs to whose key `keep` answers true
abbrev pub kept_by : (Literal → Bool) → List Pair → List Pair
kept_by keep v = filter (λ p. keep p.key) v

-- what a test of keys answers: of one with this plain value always p of it
abbrev pub AnswersBy : {R : Type 0} → (R → Literal) → (R → Bool → Type 0) → (Literal → Bool) → Type 0
AnswersBy plain post p = (k : _) (b : Bool) → post k b → b ≡ p (plain k)

-- the first, or where it is none the second
abbrev pub either_of : Option Literal → Option Literal → Option Literal
either_of None y = y
either_of (Some x) y = Some x

-- what stands there, where b
abbrev pub only_if : Bool → Option Literal → Option Literal
only_if b x = if b then x else None

-- whether the rule takes the other's value under a key of both
abbrev pub takes : Merge → Bool
takes Keep = false
takes Take = true

-- what stands under a key where theirs and mine did before: theirs where they are taken and there, else mine
abbrev pub merged : Bool → (theirs mine : Option Literal) → Option Literal
merged true theirs mine = either_of theirs mine
merged false theirs mine = either_of mine theirs

-- whether a value is there, and is a
abbrev pub is_value : Literal → Option Literal → Bool
is_value a None = false
is_value a (Some b) = same a b

-- whether a pair is one of v
abbrev pub holds : List Pair → Pair → Bool
holds v p = is_value p.value (value_in p.key v)

-- how many pairs come where a is put
abbrev pub comes : Literal → List Pair → ℕ
comes a v = if has a v then 0 else 1

-- how many go where a is removed
abbrev pub goes : Literal → List Pair → ℕ
goes a v = if has a v then 1 else 0

-- where n pairs that come find no room, the storage at least doubles
abbrev pub Doubles : {A E : Type 0} → ℕ → Result A E → (before after : Flat (List Pair)) → Type 0
Doubles n result before after = before.room < n → OnOk result (HasDoubled (length before.value) n after)

-- a change was refused, the holder is as it was, and key and value are handed back
abbrev pub HandsBoth : {K V E : Type 0} → K → V → (before after : Flat (List Pair)) → (h h' : Purse) → E × K × V → Type 0
HandsBoth k v before after h h' e = Stays before after × (h' ≡ h) × (e.1 ≡ k) × (e.2 ≡ v)

-- the units of the key that ends where the pair of a goes or has another value
abbrev pub key_units : (Literal → Bool) → Literal → List Pair → ℕ
key_units by_key a v = if has a v then unit_if (by_key a) else 0

-- of a key and a value, whether they hold units
module _ (by_key by_value : Literal → Bool) where
  -- the units of a pair
  abbrev pub units : Pair → ℕ
  units p = unit_if (by_key p.key) + unit_if (by_value p.value)

  -- a change of `before`: spare moves by at most the units of the pairs that were held, and copied rises by nothing where the handle was alone, else by at most the pairs' weights
  abbrev pub Pays : ℕ → Flat (List Pair) → (h h' : Purse) → Type 0
  Pays weight before h h' = Moves (sum_by units before.value) (copies before.alone (weight * length before.value)) h h'

  -- a change of `before` that brings copies of the pairs `other` in: spare moves by at most the units of both, and copied rises by at most the weights of those that are copied
  abbrev pub PaysWith : ℕ → Flat (List Pair) → List Pair → (h h' : Purse) → Type 0
  PaysWith weight before other h h' = Moves (sum_by units (before.value ++ other)) (copies before.alone (weight * length before.value) + weight * length other) h h'

  -- of an alone handle exactly the units of its pairs come back
  abbrev pub Returns : Flat (List Pair) → (h h' : Purse) → Type 0
  Returns before h h' = before.alone ≡ true → h' ≡ more (sum_by units before.value) h

  module _ {K V : Type 0} (plain : K → Literal) (worth : V → Literal) where
    -- the units of the pairs
    abbrev pub held : PairsView K V → ℕ
    held s = sum_by units (listed plain worth s)

    -- spare and the units that the pairs hold are as many together as before
    abbrev pub Balances : (before after : PairsView K V) → (h h' : Purse) → Type 0
    Balances before after h h' = h'.spare + held after ≡ h.spare + held before

    module _ {Q : Type 0} where
      -- a change of a handle costs, for which n copies are made where it is not alone: spare moves by at most the units of the pairs held
      abbrev pub Costs : ℕ → Counted (PairsView K V) Q → (h h' : Purse) → Type 0
      Costs n c h h' = Moves (held c.value) (copies c.alone n) h h'

      -- of an alone handle exactly the units of its pairs come back
      abbrev pub GivesBack : Counted (PairsView K V) Q → (h h' : Purse) → Type 0
      GivesBack c h h' = c.alone ≡ true → h' ≡ more (held c.value) h
