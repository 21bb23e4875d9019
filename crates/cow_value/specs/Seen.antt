-- What contracts see of a value of any kind, and what a statement brings to it.
use Rattle.std.specs.Prelude.{ℕ, ◌+◌, Bool, true, false, List, length, count_by, if◌then◌else◌}
use Rattle.cow_model.specs.Atoms.{counted_in}
use Rattle.cow_model.specs.Plain.{size}
use Rattle.cow_model.specs.Sharing.{Layer, literals}
use Rattle.cow_model.specs.Turns.{added_of}
use Rattle.cow_model.specs.Units.{nodes_of, units_of, tells_units}
use Rattle.cow_model.specs.declared.plain.Literal.{Literal}
use Rattle.cow_model.specs.declared.statement.Statement.TheOpen.{Statement-F}
use Rattle.cow_model.specs.declared.value.Plain.{Plain}

-- its plain value; whether it is known that no other handle holds its storage; and the units that the plain value doesn't tell
pub record Seen : Type 0 where
  pub value : Plain
  pub alone : Bool
  pub hidden : ℕ

-- the units that it holds: those of its plain value, and the hidden ones
abbrev pub units : (Literal → Bool) → Seen → ℕ
units counted v = v.hidden + units_of counted v.value

-- the units of its storage: a slice's plain value doesn't tell them
abbrev pub stored : (Literal → Bool) → Seen → ℕ
stored counted v = if tells_units v.value then units_of counted v.value else v.hidden

-- the same in a handle that isn't alone
abbrev pub shared : Seen → Seen
shared v = record v { alone = false }

-- a new value
abbrev pub fresh : Plain → Seen
fresh value = record { value = value; alone = true; hidden = 0 }

-- the most units that copies of what a value holds take
abbrev pub copied_units : Plain → ℕ
copied_units v = size v + nodes_of v

-- what a statement brings in: the units that go into the value; the atoms that are copied at most; and the units of nodes that are copied at most
pub record Brings : Type 0 where
  pub units : ℕ
  pub atoms : ℕ
  pub nodes : ℕ

-- literals
abbrev pub literal : (Literal → Bool) → List Literal → Brings
literal counted atoms = record { units = count_by counted atoms; atoms = length atoms; nodes = 0 }

-- the literals of a statement
abbrev pub literals_of : (Literal → Bool) → Layer → Brings
literals_of counted s = record { units = counted_in counted s; atoms = literals s; nodes = 0 }

-- what another value gives
abbrev pub given_by : (Literal → Bool) → Layer → Seen → Brings
given_by counted s other = record { units = units counted other; atoms = added_of s other.value; nodes = nodes_of other.value }

-- `rebase` gives a value of another kind, so no kind does it by itself
abbrev pub keeps_kind : Layer → Bool
keeps_kind (Statement-F.Rebase l n) = false
keeps_kind statement = true
