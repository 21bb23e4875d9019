-- The words in which every flat collection says what a change does.
use Rattle.std.specs.Prelude.{◌≡◌, ℕ, ◌+◌, ◌-◌, ◌*◌, ◌<◌, ◌≤◌, Bool, true, List, ◌++◌, length, count_by, Result, IsOk, OnOk}
use Rattle.cow_model.specs.Flat.{Flat, HasRoom, Stays, copies}
use Rattle.cow_model.specs.Purse.{Purse, Moves, more}
use Rattle.cow_model.specs.declared.plain.Literal.{Literal}

module _ {V : Type 0} where
  -- the storage, which held n elements and has taken m more, has room for at least twice n and at least 4 in all
  pub record HasDoubled (n m : ℕ) (after : Flat V) : Type 0 where
    pub twice : 2 * n ≤ n + m + after.room
    pub four : 4 ≤ n + m + after.room

  -- `come` elements come and `go` go: where the handle is alone with room for them, the answer is Ok, and the room moves by just these
  abbrev pub InPlace : {A E : Type 0} → (come go : ℕ) → Result A E → (before after : Flat V) → Type 0
  InPlace come go result before after = HasRoom (come - go) before → IsOk result × (after.room + come ≡ before.room + go)

  -- a change was refused, the holder is as it was, and x is handed back
  abbrev pub HandsBack : {X E : Type 0} → X → (before after : Flat V) → (h h' : Purse) → E × X → Type 0
  HandsBack x before after h h' e = Stays before after × (h' ≡ h) × (e.1 ≡ x)

-- where n elements that come find no room, the storage at least doubles
abbrev pub Doubles : {A E : Type 0} → ℕ → Result A E → (before after : Flat (List Literal)) → Type 0
Doubles n result before after = before.room < n → OnOk result (HasDoubled (length before.value) n after)

module _ (is_counted : Literal → Bool) where
  -- of an alone handle exactly the units of its elements come back
  abbrev pub Returns : Flat (List Literal) → (h h' : Purse) → Type 0
  Returns before h h' = before.alone ≡ true → h' ≡ more (count_by is_counted before.value) h

  -- a change of `before` that brings copies of the elements `other` in costs: spare moves by at most the units of both, and copied rises by at most the weights of those that are copied
  abbrev pub PaysWith : ℕ → Flat (List Literal) → List Literal → (h h' : Purse) → Type 0
  PaysWith weight before other h h' = Moves (count_by is_counted (before.value ++ other)) (copies before.alone (weight * length before.value) + weight * length other) h h'
