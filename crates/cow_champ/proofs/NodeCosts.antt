-- How many entries and children a node has, by its pairs.
use Rattle.std.proofs.Common.{◌≡◌, ℕ, ◌+◌, ◌*◌, ◌<◌, ◌≤◌, List, length}
use Rattle.std.specs.Int.{bit_at}
use Rattle.cow_cell.specs.declared.counted.Counted.{Counted}
use Rattle.cow_model.specs.Canon.{Tree, branch, child, pairs, IsCanonical}
use Rattle.cow_model.specs.Slots.{Fits}
use Rattle.cow_model.specs.declared.plain.Literal.{Literal}
use Rattle.cow_model.proofs.CanonCosts.{rows_few, rows_child}
use Rattle.cow_champ.specs.Node.{pair_of, slots_of, value_of}
use Rattle.cow_champ.specs.declared.rows.Entry.{Entry}

module _ {X Y C Z : Type 0} (key_plain : X → Literal) (value_plain : Y → Literal) (shape_of : C → Tree) (hash_of : Literal → ℕ) (level next : ℕ) (e : next ≡ level + 1) (l : next ≤ 7) (n m : ℕ) (es : List (Entry X Y)) (cs : List (Counted C Z)) (fits : Fits n m (length es) (length cs)) (canonical : IsCanonical hash_of (branch (slots_of key_plain value_plain shape_of n m es cs)) level) where
  pub branch_few : length es + 2 * length cs ≤ length (pairs (branch (slots_of key_plain value_plain shape_of n m es cs)))
  branch_few = rows_few (pair_of key_plain value_plain) (λ x. shape_of (value_of x)) hash_of level next e l n m es cs fits canonical

  pub branch_child : (d : ℕ) (s : Tree) → d < 32 → slots_of key_plain value_plain shape_of n m es cs d ≡ child s → bit_at n d ≡ 0 → bit_at m d ≡ 1 → length es + 2 * length cs + length (pairs s) ≤ length (pairs (branch (slots_of key_plain value_plain shape_of n m es cs))) + 2
  branch_child = rows_child (pair_of key_plain value_plain) (λ x. shape_of (value_of x)) hash_of level next e l n m es cs fits canonical
