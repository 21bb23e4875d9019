-- Plain values: what they hold, how large they are, and when two are one.
use Rattle.std.specs.Prelude.{ℕ, ◌+◌, ◌*◌, ◌&&◌, ◌==◌, Bool, true, false, List, length}
use Rattle.std.specs.Cmp.Lexicographic.{pointwise}
use Rattle.cow_model.specs.Order.{same}
use Rattle.cow_model.specs.declared.plain.Literal.{Literal}
use Rattle.cow_model.specs.declared.value.Pair.{Pair}
use Rattle.cow_model.specs.declared.value.Plain.{Plain}
use Rattle.cow_model.specs.declared.value.Plain.TheVariants.{Array, Slice, Deque, Set, Dict, OSet, ODict, Heap, TSet, TDict}

-- the most elements or pairs of a value
abbrev pub max_count : ℕ
max_count = 65536

-- the number of elements or pairs
abbrev pub count : Plain → ℕ
count (Array items) = length items
count (Slice start items) = length items
count (Deque items) = length items
count (Set items) = length items
count (Dict pairs) = length pairs
count (OSet items) = length items
count (ODict pairs) = length pairs
count (Heap items) = length items
count (TSet items) = length items
count (TDict pairs) = length pairs

-- the number of atoms: a pair has two
abbrev pub size : Plain → ℕ
size (Dict pairs) = 2 * length pairs
size (ODict pairs) = 2 * length pairs
size (TDict pairs) = 2 * length pairs
size value = count value

-- the index behind the last element: that of a slice is in the array that it was cut from
abbrev pub stop : Plain → ℕ
stop (Slice start items) = start + length items
stop value = count value

-- whether a value is a trie
abbrev pub is_tree : Plain → Bool
is_tree (TSet items) = true
is_tree (TDict pairs) = true
is_tree value = false

-- whether two lists are one
abbrev pub same_items : List Literal → List Literal → Bool
same_items items others = pointwise same items others

-- whether two pairs are one
abbrev pub same_pair : Pair → Pair → Bool
same_pair p q = same p.key q.key && same p.value q.value

-- whether two lists of pairs are one
abbrev pub same_pairs : List Pair → List Pair → Bool
same_pairs pairs others = pointwise same_pair pairs others

-- whether two values are one: of one kind, and with the same contents
abbrev pub same_plain : Plain → Plain → Bool
same_plain (Array items) (Array others) = same_items items others
same_plain (Slice start items) (Slice other others) = start == other && same_items items others
same_plain (Deque items) (Deque others) = same_items items others
same_plain (Set items) (Set others) = same_items items others
same_plain (Dict pairs) (Dict others) = same_pairs pairs others
same_plain (OSet items) (OSet others) = same_items items others
same_plain (ODict pairs) (ODict others) = same_pairs pairs others
same_plain (Heap items) (Heap others) = same_items items others
same_plain (TSet items) (TSet others) = same_items items others
same_plain (TDict pairs) (TDict others) = same_pairs pairs others
same_plain value other = false
