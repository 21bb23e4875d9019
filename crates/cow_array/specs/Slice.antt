-- What contracts see of a slice.
use Rattle.std.specs.Prelude.{ℕ, ◌-◌, List, Option, slice_get, slice_set}
use Rattle.cow_model.specs.declared.plain.Literal.{Literal}

-- its elements; the index of the first one; and the units of all items in its storage, those that it doesn't show among them, since they end with it
pub record Slice : Type 0 where
  pub items : List Literal
  pub start : ℕ
  pub units : ℕ

-- the element of index i
abbrev pub element : Slice → ℕ → Option Literal
element v i = slice_get v.items (i - v.start)

-- the elements, with another one at index i
abbrev pub with_element : Slice → ℕ → Literal → List Literal
with_element v i x = slice_set v.items (i - v.start) x
