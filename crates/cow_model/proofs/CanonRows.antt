-- Rows of a node, and the slots that they stand for.
use Rattle.std.proofs.Common.{◌≡◌, ℕ, ◌+◌, ◌*◌, ◌<◌, ◌≤◌, Bool, true, false, cond, eqb, List, map, length, get_or, Option, Some, None, refl, sym, ap, ◌∙◌, arith, rules, subst, eqb-true, All}
use Rattle.std.specs.List.{slice_get}
use Rattle.std.specs.Option.{option_map}
use Rattle.std.specs.Int.{bit_at}
use Rattle.std.proofs.lemmas.Option.{slice_get-map, slice_get-get_or}
use Rattle.std.proofs.lemmas.Nat.Bits.{bit_at-lt}
use Rattle.std.proofs.lemmas.Bool.{eqb-false}
use Rattle.cow_model.specs.declared.value.Pair.{Pair}
use Rattle.cow_model.specs.Canon.{Tree, Slot, free, entry, child}
use Rattle.cow_model.specs.Slots.{slot_at, Fits, rank}
use Rattle.cow_model.proofs.CanonRanks.{rank-lt}

-- a bit that is not 1
pub bit_zero : (n d : ℕ) → eqb (bit_at n d) 1 ≡ false → bit_at n d ≡ 0
bit_zero n d h = omega (arith, bit_at-lt n d, eqb-false (bit_at n d) 1 h)

-- an element that was read
pub read_at : {X Y : Type 0} (f : X → Y) (xs : List X) (i : ℕ) (x : X) → i < length xs → x ≡ get_or xs i x → slice_get (map f xs) i ≡ Some (f x)
read_at f xs i x h e = slice_get-map f xs i ∙ ap (option_map f) (slice_get-get_or xs i x h ∙ ap Some (sym e))

module _ (data_map nodes : ℕ) (es : List Pair) (cs : List Tree) (d : ℕ) where
  pub slot_entry : (p : Pair) → eqb (bit_at data_map d) 1 ≡ true → slice_get es (rank data_map d) ≡ Some p → slot_at data_map nodes es cs d ≡ entry p
  unfolding slot_at
  slot_entry p h e = rw (h, e) refl

  pub slot_child : (s : Tree) → eqb (bit_at data_map d) 1 ≡ false → eqb (bit_at nodes d) 1 ≡ true → slice_get cs (rank nodes d) ≡ Some s → slot_at data_map nodes es cs d ≡ child s
  unfolding slot_at
  slot_child s h k e = rw (h, k, e) refl

  pub slot_free : eqb (bit_at data_map d) 1 ≡ false → eqb (bit_at nodes d) 1 ≡ false → slot_at data_map nodes es cs d ≡ free
  unfolding slot_at
  slot_free h k = rw (h, k) refl

pub entry_place : (data_map node_map d n m : ℕ) → Fits data_map node_map n m → d < 32 → eqb (bit_at data_map d) 1 ≡ true → rank data_map d < n
entry_place data_map node_map d n m f h k = omega (arith, rank-lt data_map d 32 (eqb-true _ 1 k) h, f.entries)

pub child_place : (data_map node_map d n m : ℕ) → Fits data_map node_map n m → d < 32 → eqb (bit_at node_map d) 1 ≡ true → rank node_map d < m
child_place data_map node_map d n m f h k = omega (arith, rank-lt node_map d 32 (eqb-true _ 1 k) h, f.children)

-- what holds of each element holds of one that was read
pub All_at : {X : Type 0} (P : X → Type 0) (xs : List X) → All P xs → (i : ℕ) → i < length xs → (x : X) → x ≡ get_or xs i x → P x
All_at P xs h i k x e = subst P (sym e) (h i x k)

-- two reads of one place
pub read_same : {X : Type 0} (xs : List X) (i : ℕ) (x y : X) → i < length xs → x ≡ get_or xs i x → y ≡ get_or xs i y → x ≡ y
read_same xs i x y h e f =
    let a : Some x ≡ Some y = ap Some e ∙ sym (slice_get-get_or xs i x h) ∙ slice_get-get_or xs i y h ∙ ap Some (sym f) in
    cc

-- within the row the default does not matter
pub get_or_any : {X : Type 0} (xs : List X) (i : ℕ) (d e : X) → i < length xs → get_or xs i d ≡ get_or xs i e
get_or_any xs i d e h =
    let a : Some (get_or xs i d) ≡ Some (get_or xs i e) = sym (slice_get-get_or xs i d h) ∙ slice_get-get_or xs i e h in
    cc
