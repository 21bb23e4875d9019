-- The units of values of all kinds: one for each counted atom, and those of a trie's nodes.
use Rattle.std.specs.Prelude.{ℕ, ◌+◌, Bool, true, false, count_by, if◌then◌else◌}
use Rattle.std.specs.List.{sum_by}
use Rattle.cow_model.specs.Flat.{need}
use Rattle.cow_model.specs.Plain.{count, is_tree}
use Rattle.cow_model.specs.Purse.{unit_if}
use Rattle.cow_model.specs.declared.plain.Literal.{Literal}
use Rattle.cow_model.specs.declared.value.Pair.{Pair}
use Rattle.cow_model.specs.declared.value.Plain.{Plain}
use Rattle.cow_model.specs.declared.value.Plain.TheVariants.{Array, Slice, Deque, Set, Dict, OSet, ODict, Heap, TSet, TDict}

-- more than a trie of so many keys has nodes, and more than a change of it makes; never 0, so that no value with a trie is bare
abbrev pub nodes_of : Plain → ℕ
nodes_of v = if is_tree v then need (count v) else 0

-- the units of a pair's two atoms
abbrev pub pair_units : (Literal → Bool) → Pair → ℕ
pair_units p q = unit_if (p q.key) + unit_if (p q.value)

-- the units of a value: those of its atoms, and of its nodes at most
abbrev pub units_of : (Literal → Bool) → Plain → ℕ
units_of p (Array items) = count_by p items
units_of p (Slice start items) = count_by p items
units_of p (Deque items) = count_by p items
units_of p (Set items) = count_by p items
units_of p (Dict pairs) = sum_by (pair_units p) pairs
units_of p (OSet items) = count_by p items
units_of p (ODict pairs) = sum_by (pair_units p) pairs
units_of p (Heap items) = count_by p items
units_of p (TSet items) = count_by p items + nodes_of (TSet items)
units_of p (TDict pairs) = sum_by (pair_units p) pairs + nodes_of (TDict pairs)

-- whether a plain value tells the units of its storage: that of a slice may hold what the slice doesn't show
abbrev pub tells_units : Plain → Bool
tells_units (Slice start items) = false
tells_units v = true
