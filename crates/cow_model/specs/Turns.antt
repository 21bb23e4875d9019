-- The table of the statements that change a value: which definition each runs, how many copies it may make, and when the value is alone afterwards.
use Rattle.std.specs.Prelude.{◌≡◌, ℕ, Bool, true, not, ◌&&◌, ⊤, Ok, Err}
use Rattle.cow_model.specs.Changes.{change_of, change_by_of}
use Rattle.cow_model.specs.Operation.{Answer, fitting, pop}
use Rattle.cow_model.specs.Plain.{size, same_plain}
use Rattle.cow_model.specs.Sharing.{Layer, own_cost_of, key_cost_of, pop_cost_of, both_cost_of, pop_parts, alone_if}
use Rattle.cow_model.specs.declared.plain.Literal.{Literal}
use Rattle.cow_model.specs.declared.statement.Side.{Side}
use Rattle.cow_model.specs.declared.statement.Statement.TheOpen.{Statement-F}
use Rattle.cow_model.specs.declared.value.Plain.{Plain}

-- a row: the answer; the most copies beside those of new atoms, by whether the value was alone; and whether a value that it changes is alone afterwards
pub record Turn : Type 0 where
  pub run : Plain → Answer
  pub cost : Bool → Plain → ℕ
  pub parts : Plain → Bool

-- whether a value is alone after its row
abbrev pub alone_after : Turn → Bool → Plain → Plain → Bool
alone_after t alone v v' = alone_if (t.parts v) alone v v'

-- a change of a whole value
abbrev pub whole : (Plain → Answer) → Turn
whole run = record { run = λ v. fitting (run v); cost = own_cost_of; parts = λ v. true }

-- a change of one key
abbrev pub keyed : Literal → (Plain → Answer) → Turn
keyed a run = record { run = λ v. fitting (run v); cost = key_cost_of a; parts = λ v. true }

-- `pop`
abbrev pub popping : Side → Turn
popping side = record { run = pop side; cost = pop_cost_of side; parts = pop_parts side }

-- the row of a statement that changes one value
abbrev pub turn_of : Layer → Turn
turn_of (Statement-F.Insert l n a) = keyed a (change_of (Statement-F.Insert l n a))
turn_of (Statement-F.Update l n a) = keyed a (change_of (Statement-F.Update l n a))
turn_of (Statement-F.Remove l n a) = keyed a (change_of (Statement-F.Remove l n a))
turn_of (Statement-F.Put l n k v) = keyed k (change_of (Statement-F.Put l n k v))
turn_of (Statement-F.Pop l n side) = popping side
turn_of s = whole (change_of s)

-- the row of one that changes a value by another
abbrev pub turn_by_of : Layer → Plain → Turn
turn_by_of s other = record { run = λ v. fitting (change_by_of s v other); cost = both_cost_of; parts = λ v. true }

-- how many atoms of the other are added at most
abbrev pub added_of : Layer → Plain → ℕ
added_of (Statement-F.Inter l n m) other = 0
added_of (Statement-F.Minus l n m) other = 0
added_of (Statement-F.Within l n m) other = 0
added_of s other = size other

-- what tells, before a statement that isn't refused, whether it leaves a value alone that wasn't
abbrev pub tells_of : Bool → Turn → Plain → Answer → Type 0
tells_of told t v (Ok done) = told ≡ (t.parts v && not (same_plain v done.value))
tells_of told t v (Err why) = ⊤

-- the same by the row
abbrev pub TellsParts : Bool → Turn → Plain → Type 0
TellsParts told t v = tells_of told t v (t.run v)
