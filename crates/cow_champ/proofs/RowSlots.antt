-- The slots of a node whose rows hold entries and handles.
use Rattle.std.proofs.Common.{◌≡◌, ℕ, ◌<◌, Bool, true, false, eqb, List, map, length, get_or, sym, ap, ◌∙◌}
use Rattle.std.specs.Int.{bit_at}
use Rattle.cow_model.specs.declared.plain.Literal.{Literal}
use Rattle.cow_model.specs.declared.value.Pair.{Pair}
use Rattle.cow_model.specs.Canon.{Tree, free, entry, child}
use Rattle.cow_champ.specs.Node.{pair_of, slots_of, value_of}
use Rattle.cow_champ.specs.declared.rows.Entry.{Entry}
use Rattle.cow_cell.specs.declared.counted.Counted.{Counted}
use Rattle.cow_model.specs.Slots.{rank}
use Rattle.cow_model.proofs.CanonRows.{read_at, slot_entry, slot_child, slot_free}

module _ {X Y C Z : Type 0} (key_plain : X → Literal) (value_plain : Y → Literal) (shape_of : C → Tree) (data_map node_map : ℕ) (es : List (Entry X Y)) (cs : List (Counted C Z)) (d : ℕ) where
  pub slots_entry : eqb (bit_at data_map d) 1 ≡ true → (i : ℕ) → i ≡ rank data_map d → i < length es → (x : Entry X Y) → x ≡ get_or es i x → slots_of key_plain value_plain shape_of data_map node_map es cs d ≡ entry (pair_of key_plain value_plain x)
  slots_entry h i e k x r = slot_entry _ _ _ _ _ _ h (rw (← e) (read_at (pair_of key_plain value_plain) es i x k r))

  pub slots_child : eqb (bit_at data_map d) 1 ≡ false → eqb (bit_at node_map d) 1 ≡ true → (i : ℕ) → i ≡ rank node_map d → i < length cs → (x : Counted C Z) → x ≡ get_or cs i x → slots_of key_plain value_plain shape_of data_map node_map es cs d ≡ child (shape_of (value_of x))
  slots_child h h' i e k x r = slot_child _ _ _ _ _ _ h h' (rw (← e) (read_at (λ c. shape_of (value_of c)) cs i x k r))

  pub slots_free : eqb (bit_at data_map d) 1 ≡ false → eqb (bit_at node_map d) 1 ≡ false → slots_of key_plain value_plain shape_of data_map node_map es cs d ≡ free
  slots_free h h' = slot_free _ _ _ _ _ h h'
