-- A new entry, and a node of one child or of nothing.
use Rattle.std.proofs.Common.{◌≡◌, ◌≢◌, ℕ, zero, suc, ◌+◌, ◌*◌, ◌^◌, ◌<◌, ◌≤◌, Bool, true, false, cond, eqb, ltb, List, [], ◌∷◌, map, length, get_or, Some, None, refl, sym, ap, ◌∙◌, arith, subst, eq-eqb, ne_eqb, lt-ltb, le-ltb, All}
use Rattle.std.specs.List.{insert, slice_get}
use Rattle.std.specs.Int.{bit_at}
use Rattle.std.proofs.lemmas.Nat.Bits.{bit_at_above, bit_at-lt}
use Rattle.std.proofs.lemmas.List.{length-map}
use Rattle.std.proofs.lemmas.Option.{slice_get-get_or}
use Rattle.cow_model.specs.declared.plain.Literal.{Literal}
use Rattle.cow_model.specs.declared.value.Pair.{Pair}
use Rattle.cow_model.specs.Canon.{Tree, Slot, branch, free, entry, child}
use Rattle.cow_model.specs.Slots.{rank, slot_at, Fits}
use Rattle.cow_champ.specs.Node.{value_of, slots_of, pair_of}
use Rattle.cow_champ.specs.declared.rows.Entry.{Entry}
use Rattle.cow_cell.specs.declared.counted.Counted.{Counted}
use Rattle.cow_model.proofs.CanonRanks.{rank_more}
use Rattle.cow_champ.proofs.RowSlots.{slots_free}
use Rattle.cow_champ.proofs.Changes.{add_entry_here, add_entry_others, map-insert}

module _ {X Y C Z : Type 0} (key_plain : X → Literal) (value_plain : Y → Literal) (shape_of : C → Tree) (data_map node_map : ℕ) (es : List (Entry X Y)) (cs : List (Counted C Z)) (d i n : ℕ) (is : bit_at n d ≡ 1) (same : (x : ℕ) → x ≢ d → bit_at n x ≡ bit_at data_map x) (was : bit_at data_map d ≡ 0) (e : i ≡ rank data_map d) (l : i ≤ length es) (y : Entry X Y) where
  pub slots_new_here : slots_of key_plain value_plain shape_of n node_map (insert es i y) cs d ≡ entry (pair_of key_plain value_plain y)
  slots_new_here =
      let f : Entry X Y → Pair = pair_of key_plain value_plain in
      rw (map-insert f es i y) (add_entry_here data_map node_map (map f es) _ d n is same was i e (f y) (let m = length-map es f in omega (arith, m)))

  pub slots_new_others : (x : ℕ) → x ≢ d → slots_of key_plain value_plain shape_of n node_map (insert es i y) cs x ≡ slots_of key_plain value_plain shape_of data_map node_map es cs x
  slots_new_others x ne =
      let f : Entry X Y → Pair = pair_of key_plain value_plain in
      rw (map-insert f es i y) (add_entry_others data_map node_map (map f es) _ d n is same was i e (f y) (let m = length-map es f in omega (arith, m)) x ne)

pub bit_none : (d : ℕ) → bit_at 0 d ≡ 0
bit_none d = bit_at_above 0 0 d (omega arith) (omega arith)

pub rank_none : (d : ℕ) → rank 0 d ≡ 0
unfolding rank
rank_none zero = refl
rank_none (suc d) = omega (arith, rank_none d, bit_none d)

pub Fits_none : Fits 0 0 0 0
Fits_none = record { entries = rank_none 32; children = rank_none 32; apart = λ x. omega (arith, bit_none x) }

module _ (m d : ℕ) (is : bit_at m d ≡ 1) (others : (x : ℕ) → x ≢ d → bit_at m x ≡ bit_at 0 x) where
  pub Fits_one : d < 32 → Fits 0 m 0 1
  Fits_one h = record {
    entries = rank_none 32;
    children = (let q : rank m 32 ≡ rank 0 32 + 1 = rw (lt-ltb d 32 h) at (rank_more 0 m d others (bit_none d) is 32) in omega (arith, q, rank_none 32));
    apart = λ x. omega (arith, bit_none x, bit_at-lt m x);
  }

  pub only_here : (s : Tree) → slot_at 0 m [] (s ∷ []) d ≡ child s
  unfolding slot_at
  only_here s =
      let a : eqb (bit_at 0 d) 1 ≡ false = ne_eqb (bit_at 0 d) 1 (λ e. omega (arith, e, bit_none d)) in
      let q : rank m d ≡ rank 0 d + 0 = rw (le-ltb d d (omega arith)) at (rank_more 0 m d others (bit_none d) is d) in
      let r : rank m d ≡ 0 = omega (arith, q, rank_none d) in
      rw (a, eq-eqb (bit_at m d) 1 is, r) refl

  pub only_others : (s : Tree) (x : ℕ) → x ≢ d → slot_at 0 m [] (s ∷ []) x ≡ free
  unfolding slot_at
  only_others s x ne =
      let a : eqb (bit_at 0 x) 1 ≡ false = ne_eqb (bit_at 0 x) 1 (λ e. omega (arith, e, bit_none x)) in
      let b : eqb (bit_at m x) 1 ≡ false = ne_eqb (bit_at m x) 1 (λ e. omega (arith, e, others x ne, bit_none x)) in
      rw (a, b) refl

pub slot_nothing : (x : ℕ) → slot_at 0 0 [] [] x ≡ free
unfolding slot_at
slot_nothing x = let a : eqb (bit_at 0 x) 1 ≡ false = ne_eqb (bit_at 0 x) 1 (λ e. omega (arith, e, bit_none x)) in rw a refl

-- what a slice holds at a place that was read
pub read_some : {X : Type 0} (xs : List X) (i j : ℕ) (x y : X) → i < length xs → i ≡ j → y ≡ get_or xs i y → slice_get xs j ≡ Some x → y ≡ x
read_some xs i j x y h e r s =
    let a : Some y ≡ Some x = ap Some r ∙ sym (slice_get-get_or xs i y h) ∙ ap (slice_get xs) e ∙ s in
    cc
