-- What statements on hashed kinds share.
use Rattle.std.specs.Prelude.{Bool, List, count_by}
use Rattle.cow_model.specs.declared.plain.Literal.{Literal}
use Rattle.cow_model.specs.declared.value.Pair.{Pair}
use Rattle.cow_value.specs.Seen.{Brings}

-- what another set brings to a change that adds none of its members
abbrev pub lent : (Literal → Bool) → List Literal → Brings
lent counted items = record { units = count_by counted items; atoms = 0; nodes = 0 }

-- a pair of two atoms
abbrev pub pair_of : Literal → Literal → Pair
pair_of key value = record { key = key; value = value }
