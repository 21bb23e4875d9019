-- What the rows of a node stand for.
use Rattle.std.specs.Prelude.{◌≡◌, ℕ, false, List, [], ◌∷◌, map, length}
use Rattle.std.specs.Borrow.{Bor}
use Rattle.cow_cell.specs.declared.counted.Counted.{Counted}
use Rattle.cow_champ.specs.declared.rows.Entry.{Entry}
use Rattle.cow_model.specs.Canon.{Tree, Slot}
use Rattle.cow_model.specs.Slots.{slot_at}
use Rattle.cow_model.specs.declared.plain.Literal.{Literal}
use Rattle.cow_model.specs.declared.value.Pair.{Pair}

-- what a handle shows
abbrev pub value_of : {X Y : Type 0} → Counted X Y → X
value_of c = c.value

module _ {X Y : Type 0} (key_plain : X → Literal) (value_plain : Y → Literal) where
  -- the plain pair of an entry
  abbrev pub pair_of : Entry X Y → Pair
  pair_of e = record { key = key_plain e.key; value = value_plain e.value }

  -- the plain pair of a hash, a key and a value
  abbrev pub hashed : ℕ × X × Y → Pair
  hashed t = record { key = key_plain t.1; value = value_plain t.2 }

  -- of two
  abbrev pub both : (one two : ℕ × X × Y) → List Pair
  both one two = hashed one ∷ hashed two ∷ []

  -- the plain pair behind two references
  abbrev pub seen_pair : Bor X × Bor Y → Pair
  seen_pair t = record { key = key_plain t.0.now; value = value_plain t.1.now }

-- the items of an entry are settled
module _ {X Y : Type 0} (KeySettled : X → Type 0) (ValueSettled : Y → Type 0) where
  abbrev pub BothSettled : Entry X Y → Type 0
  BothSettled e = KeySettled e.key × ValueSettled e.value

  -- so are those behind two references
  abbrev pub SeenSettled : Bor X × Bor Y → Type 0
  SeenSettled t = KeySettled t.0.now × ValueSettled t.1.now

-- a child's handle is settled, and its node is whole
module _ {C Z : Type 0} (Whole : C → Type 0) where
  abbrev pub IsWholeChild : Counted C Z → Type 0
  IsWholeChild c = (c.alone ≡ false) × Whole (value_of c)

-- the slots of a node with these maps and rows
module _ {X Y C Z : Type 0} (key_plain : X → Literal) (value_plain : Y → Literal) (shape_of : C → Tree) where
  abbrev pub slots_of : ℕ → ℕ → List (Entry X Y) → List (Counted C Z) → ℕ → Slot
  slots_of data_map node_map es cs = slot_at data_map node_map (map (pair_of key_plain value_plain) es) (map (λ c. shape_of (value_of c)) cs)
