-- What a change of a row does to the slots of a node.
use Rattle.std.proofs.Common.{◌≡◌, ◌≢◌, ℕ, zero, suc, ◌+◌, ◌-◌, ◌*◌, ◌<◌, ◌≤◌, Bool, true, false, cond, eqb, ltb, List, [], ◌∷◌, ◌++◌, map, length, get_or, take, drop, Option, Some, None, inl, inr, refl, sym, ap, ◌∙◌, arith, rules, subst, eqb-true, eq-eqb, ne_eqb, lt-ltb, le-ltb, All}
use Rattle.std.proofs.Math.ListN.{set}
use Rattle.std.specs.List.{slice_get, insert, remove}
use Rattle.std.specs.Option.{option_map_or}
use Rattle.std.specs.Int.{bit_at}
use Rattle.std.proofs.lemmas.Bool.{cases_Bool, cases_eq, cases_lt, cases_order, eqb-false}
use Rattle.cow_model.specs.declared.plain.Literal.{Literal}
use Rattle.cow_model.specs.declared.value.Pair.{Pair}
use Rattle.cow_model.specs.Canon.{Tree, Slot, free, entry, child}
use Rattle.cow_model.specs.Slots.{slot_at, Fits, rank}
use Rattle.cow_champ.specs.Node.{slots_of, pair_of, value_of}
use Rattle.cow_champ.specs.declared.rows.Entry.{Entry}
use Rattle.cow_cell.specs.declared.counted.Counted.{Counted}
use Rattle.std.proofs.lemmas.List.{map-set, length-map, length-set, map-append, take_more}
use Rattle.std.specs.Prelude.{Result, Ok, Err, if◌then◌else◌}
use Rattle.std.specs.Result.{is_err, is_ok}
use Rattle.std.proofs.lemmas.List.Edits.{length-insert}
use Rattle.std.proofs.lemmas.List.Elements.{All-append, All-take, All-drop, All-cons}
use Rattle.std.proofs.lemmas.Nat.Bits.{bit_at-lt}
use Rattle.cow_model.proofs.CanonRanks.{rank-lt, rank-le, rank_more}

pub slice_get-set_same : {X : Type 0} (xs : List X) (i : ℕ) (y : X) → i < length xs → slice_get (set xs i y) i ≡ Some y
slice_get-set_same [] i y h = absurd (omega arith)
slice_get-set_same (x ∷ xs) zero y h = refl
slice_get-set_same (x ∷ xs) (suc i) y h = slice_get-set_same xs i y (omega arith)

pub slice_get-set_other : {X : Type 0} (xs : List X) (i j : ℕ) (y : X) → j ≢ i → slice_get (set xs i y) j ≡ slice_get xs j
slice_get-set_other [] i j y h = refl
slice_get-set_other (x ∷ xs) zero zero y h = absurd (h refl)
slice_get-set_other (x ∷ xs) zero (suc j) y h = refl
slice_get-set_other (x ∷ xs) (suc i) zero y h = refl
slice_get-set_other (x ∷ xs) (suc i) (suc j) y h = slice_get-set_other xs i j y (λ e. h (ap suc e))

pub slice_get-insert_same : {X : Type 0} (xs : List X) (i : ℕ) (y : X) → i ≤ length xs → slice_get (insert xs i y) i ≡ Some y
slice_get-insert_same xs zero y h = refl
slice_get-insert_same [] (suc i) y h = absurd (omega arith)
slice_get-insert_same (x ∷ xs) (suc i) y h = slice_get-insert_same xs i y (omega arith)

pub slice_get-insert_below : {X : Type 0} (xs : List X) (i j : ℕ) (y : X) → i ≤ length xs → j < i → slice_get (insert xs i y) j ≡ slice_get xs j
slice_get-insert_below xs zero j y h k = absurd (omega arith)
slice_get-insert_below [] (suc i) j y h k = absurd (omega arith)
slice_get-insert_below (x ∷ xs) (suc i) zero y h k = refl
slice_get-insert_below (x ∷ xs) (suc i) (suc j) y h k = slice_get-insert_below xs i j y (omega arith) (omega arith)

pub slice_get-insert_above : {X : Type 0} (xs : List X) (i j : ℕ) (y : X) → i ≤ length xs → i ≤ j → slice_get (insert xs i y) (suc j) ≡ slice_get xs j
slice_get-insert_above xs zero j y h k = refl
slice_get-insert_above [] (suc i) j y h k = absurd (omega arith)
slice_get-insert_above (x ∷ xs) (suc i) zero y h k = absurd (omega arith)
slice_get-insert_above (x ∷ xs) (suc i) (suc j) y h k = slice_get-insert_above xs i j y (omega arith) (omega arith)

pub map-insert : {X Y : Type 0} (f : X → Y) (xs : List X) (i : ℕ) (y : X) → map f (insert xs i y) ≡ insert (map f xs) i (f y)
map-insert f xs zero y = refl
map-insert f [] (suc i) y = refl
map-insert f (x ∷ xs) (suc i) y = ap (λ ys. f x ∷ ys) (map-insert f xs i y)

pub set-insert : {X : Type 0} (xs : List X) (i : ℕ) (x y : X) → i ≤ length xs → set (insert xs i x) i y ≡ insert xs i y
set-insert xs zero x y h = refl
set-insert [] (suc i) x y h = absurd (omega arith)
set-insert (z ∷ xs) (suc i) x y h = ap (λ ys. z ∷ ys) (set-insert xs i x y (omega arith))

-- two members have different ranks
pub rank-apart : (m d e : ℕ) → bit_at m d ≡ 1 → bit_at m e ≡ 1 → e ≢ d → rank m e ≢ rank m d
rank-apart m d e h k ne q =
    elim (cases_order d e) [
      | inl f ↦ ne (sym f)
      | inr f ↦ (elim f [ inl l ↦ omega (arith, rank-lt m d e h l) | inr l ↦ omega (arith, rank-lt m e d k l) ])
    ]

module _ (data_map node_map : ℕ) (es : List Pair) (cs : List Tree) (d : ℕ) where
  pub set_child_here : (i : ℕ) (s : Tree) → eqb (bit_at data_map d) 1 ≡ false → eqb (bit_at node_map d) 1 ≡ true → i ≡ rank node_map d → i < length cs → slot_at data_map node_map es (set cs i s) d ≡ child s
  unfolding slot_at
  set_child_here i s h k e l = rw (h, k, ← e, slice_get-set_same cs i s l) refl

  pub set_child_others : (i : ℕ) (s : Tree) → eqb (bit_at node_map d) 1 ≡ true → i ≡ rank node_map d → (x : ℕ) → x ≢ d → slot_at data_map node_map es (set cs i s) x ≡ slot_at data_map node_map es cs x
  unfolding slot_at
  set_child_others i s k e x ne =
      elim (cases_Bool (eqb (bit_at data_map x) 1)) [
        | inl a ↦ rw a refl
        | inr a ↦ (elim (cases_Bool (eqb (bit_at node_map x) 1)) [
          | inl b ↦ rw (a, b, e, slice_get-set_other cs (rank node_map d) (rank node_map x) s (rank-apart node_map d x (eqb-true _ 1 k) (eqb-true _ 1 b) ne)) refl
          | inr b ↦ rw (a, b) refl
        ])
      ]

  pub set_entry_here : (i : ℕ) (p : Pair) → eqb (bit_at data_map d) 1 ≡ true → i ≡ rank data_map d → i < length es → slot_at data_map node_map (set es i p) cs d ≡ entry p
  unfolding slot_at
  set_entry_here i p h e l = rw (h, ← e, slice_get-set_same es i p l) refl

  pub set_entry_others : (i : ℕ) (p : Pair) → eqb (bit_at data_map d) 1 ≡ true → i ≡ rank data_map d → (x : ℕ) → x ≢ d → slot_at data_map node_map (set es i p) cs x ≡ slot_at data_map node_map es cs x
  unfolding slot_at
  set_entry_others i p k e x ne =
      elim (cases_Bool (eqb (bit_at data_map x) 1)) [
        | inl a ↦ rw (a, e, slice_get-set_other es (rank data_map d) (rank data_map x) p (rank-apart data_map d x (eqb-true _ 1 k) (eqb-true _ 1 a) ne)) refl
        | inr a ↦ rw a refl
      ]

  -- an entry at a new digit
  module _ (n : ℕ) (is : bit_at n d ≡ 1) (same : (x : ℕ) → x ≢ d → bit_at n x ≡ bit_at data_map x) (was : bit_at data_map d ≡ 0) (i : ℕ) (e : i ≡ rank data_map d) (p : Pair) (l : i ≤ length es) where
    pub add_entry_here : slot_at n node_map (insert es i p) cs d ≡ entry p
    unfolding slot_at
    add_entry_here =
        let q : rank n d ≡ rank data_map d + 0 = rw (le-ltb d d (omega arith)) at (rank_more data_map n d same was is d) in
        let r : rank n d ≡ i = omega (arith, q, e) in
        rw (eq-eqb (bit_at n d) 1 is, r, slice_get-insert_same es i p l) refl

    pub add_entry_others : (x : ℕ) → x ≢ d → slot_at n node_map (insert es i p) cs x ≡ slot_at data_map node_map es cs x
    unfolding slot_at
    add_entry_others x ne =
        rw (same x ne)
        (elim (cases_Bool (eqb (bit_at data_map x) 1)) [
          | inl a ↦
              (elim (cases_lt d x) [
                | inl b ↦
                    let q : rank n x ≡ rank data_map x + 1 = rw (lt-ltb d x b) at (rank_more data_map n d same was is x) in
                    let r : rank n x ≡ suc (rank data_map x) = omega (arith, q) in
                    rw (a, r, slice_get-insert_above es i (rank data_map x) p l (omega (arith, e, rank-le data_map d x (omega arith)))) refl
                | inr b ↦
                    let q : rank n x ≡ rank data_map x + 0 = rw (le-ltb d x b) at (rank_more data_map n d same was is x) in
                    let r : rank n x ≡ rank data_map x = omega (arith, q) in
                    rw (a, r, slice_get-insert_below es i (rank data_map x) p l (omega (arith, e, rank-lt data_map x d (eqb-true _ 1 a) (omega arith)))) refl
              ])
          | inr a ↦ rw a refl
        ])

module _ {X Y C Z : Type 0} (key_plain : X → Literal) (value_plain : Y → Literal) (shape_of : C → Tree) (data_map node_map : ℕ) (es : List (Entry X Y)) (cs : List (Counted C Z)) (d i : ℕ) where
  pub slots_child_here : (y : Counted C Z) → eqb (bit_at data_map d) 1 ≡ false → eqb (bit_at node_map d) 1 ≡ true → i ≡ rank node_map d → i < length cs → slots_of key_plain value_plain shape_of data_map node_map es (set cs i y) d ≡ child (shape_of (value_of y))
  slots_child_here y h k e l =
      let f : Counted C Z → Tree = λ c. shape_of (value_of c) in
      rw (map-set f cs i y) (set_child_here data_map node_map _ (map f cs) d i (f y) h k e (let m = length-map cs f in omega (arith, m)))

  pub slots_child_others : (y : Counted C Z) → eqb (bit_at node_map d) 1 ≡ true → i ≡ rank node_map d → (x : ℕ) → x ≢ d → slots_of key_plain value_plain shape_of data_map node_map es (set cs i y) x ≡ slots_of key_plain value_plain shape_of data_map node_map es cs x
  slots_child_others y k e x ne =
      let f : Counted C Z → Tree = λ c. shape_of (value_of c) in
      rw (map-set f cs i y) (set_child_others data_map node_map _ (map f cs) d i (f y) k e x ne)

  pub slots_entry_here : (y : Entry X Y) → eqb (bit_at data_map d) 1 ≡ true → i ≡ rank data_map d → i < length es → slots_of key_plain value_plain shape_of data_map node_map (set es i y) cs d ≡ entry (pair_of key_plain value_plain y)
  slots_entry_here y h e l =
      let f : Entry X Y → Pair = pair_of key_plain value_plain in
      rw (map-set f es i y) (set_entry_here data_map node_map (map f es) _ d i (f y) h e (let m = length-map es f in omega (arith, m)))

  pub slots_entry_others : (y : Entry X Y) → eqb (bit_at data_map d) 1 ≡ true → i ≡ rank data_map d → (x : ℕ) → x ≢ d → slots_of key_plain value_plain shape_of data_map node_map (set es i y) cs x ≡ slots_of key_plain value_plain shape_of data_map node_map es cs x
  slots_entry_others y h e x ne =
      let f : Entry X Y → Pair = pair_of key_plain value_plain in
      rw (map-set f es i y) (set_entry_others data_map node_map (map f es) _ d i (f y) h e x ne)

  module _ (n : ℕ) (is : bit_at n d ≡ 1) (same : (x : ℕ) → x ≢ d → bit_at n x ≡ bit_at data_map x) (was : bit_at data_map d ≡ 0) (e : i ≡ rank data_map d) (l : i ≤ length es) (z y : Entry X Y) where
    pub slots_add_here : slots_of key_plain value_plain shape_of n node_map (set (insert es i z) i y) cs d ≡ entry (pair_of key_plain value_plain y)
    slots_add_here =
        let f : Entry X Y → Pair = pair_of key_plain value_plain in
        rw (set-insert es i z y l, map-insert f es i y) (add_entry_here data_map node_map (map f es) _ d n is same was i e (f y) (let m = length-map es f in omega (arith, m)))

    pub slots_add_others : (x : ℕ) → x ≢ d → slots_of key_plain value_plain shape_of n node_map (set (insert es i z) i y) cs x ≡ slots_of key_plain value_plain shape_of data_map node_map es cs x
    slots_add_others x ne =
        let f : Entry X Y → Pair = pair_of key_plain value_plain in
        rw (set-insert es i z y l, map-insert f es i y) (add_entry_others data_map node_map (map f es) _ d n is same was i e (f y) (let m = length-map es f in omega (arith, m)) x ne)

pub Fits-add : (data_map node_map n d k m : ℕ) → Fits data_map node_map k m → d < 32 → bit_at n d ≡ 1 → ((x : ℕ) → x ≢ d → bit_at n x ≡ bit_at data_map x) → bit_at data_map d ≡ 0 → bit_at node_map d ≡ 0 → Fits n node_map (k + 1) m
Fits-add data_map node_map n d k m f h is same was none = record {
  entries = (let q : rank n 32 ≡ rank data_map 32 + 1 = rw (lt-ltb d 32 h) at (rank_more data_map n d same was is 32) in omega (arith, q, f.entries));
  children = f.children;
  apart = λ x. elim (cases_eq x d) [
    | inl e ↦ subst (λ y. bit_at n y + bit_at node_map y ≤ 1) (sym e) (omega (arith, is, none))
    | inr ne ↦ (let a = same x ne in omega (arith, a, f.apart x))
  ];
}

pub All-added : {X : Type 0} (P : X → Type 0) (xs : List X) (i : ℕ) (x y : X) → i ≤ length xs → All P xs → P y → All P (set (insert xs i x) i y)
All-added P xs i x y l h p =
    rw (set-insert xs i x y l) (All-append P (take i xs) (y ∷ drop i xs) (All-take P i xs h) (All-cons P y (drop i xs) p (All-drop P i xs h)))

pub length-added : {X : Type 0} (xs : List X) (i : ℕ) (x y : X) → i ≤ length xs → length (set (insert xs i x) i y) ≡ length xs + 1
length-added xs i x y l = rw (length-set) (length-insert xs i x l)

pub pushed : {T E : Type 0} {X : Type 0} (r : Result T E) (xs ys zs : List X) → is_err r ≡ false → zs ≡ (if is_ok r then ys else xs) → zs ≡ ys
pushed r xs ys zs h e = (elim r as (λ x. is_err x ≡ false → zs ≡ (if is_ok x then ys else xs) → zs ≡ ys) [ Ok v ↦ λ h e. e | Err v ↦ λ h e. absurd (cc) ]) h e

pub not_pushed : {T E : Type 0} {X : Type 0} (r : Result T E) (xs ys zs : List X) → is_err r ≡ true → zs ≡ (if is_ok r then ys else xs) → zs ≡ xs
not_pushed r xs ys zs h e = (elim r as (λ x. is_err x ≡ true → zs ≡ (if is_ok x then ys else xs) → zs ≡ xs) [ Ok v ↦ λ h e. absurd (cc) | Err v ↦ λ h e. e ]) h e

pub copied_more : {X Y : Type 0} (f : X → Y) (cs xs : List X) (i : ℕ) (x y : X) → i < length xs → y ≡ get_or xs i y → f x ≡ f y → map f cs ≡ map f (take i xs) → map f (cs ++ x ∷ []) ≡ map f (take (i + 1) xs)
copied_more f cs xs i x y h r e ih =
    let t : take (i + 1) xs ≡ take i xs ++ y ∷ [] = take_more xs i y h ∙ ap (λ z. take i xs ++ z ∷ []) (sym r) in
    rw (t, map-append, map-append, ih, e) refl

pub slice_get-remove_below : {X : Type 0} (xs : List X) (i j : ℕ) → i < length xs → j < i → slice_get (remove xs i) j ≡ slice_get xs j
slice_get-remove_below [] i j h k = absurd (omega arith)
slice_get-remove_below (x ∷ xs) zero j h k = absurd (omega arith)
slice_get-remove_below (x ∷ xs) (suc i) zero h k = refl
slice_get-remove_below (x ∷ xs) (suc i) (suc j) h k = slice_get-remove_below xs i j (omega arith) (omega arith)

pub slice_get-remove_above : {X : Type 0} (xs : List X) (i j : ℕ) → i < length xs → i ≤ j → slice_get (remove xs i) j ≡ slice_get xs (suc j)
slice_get-remove_above [] i j h k = absurd (omega arith)
slice_get-remove_above (x ∷ xs) zero j h k = refl
slice_get-remove_above (x ∷ xs) (suc i) zero h k = absurd (omega arith)
slice_get-remove_above (x ∷ xs) (suc i) (suc j) h k = slice_get-remove_above xs i j (omega arith) (omega arith)

pub map-remove : {X Y : Type 0} (f : X → Y) (xs : List X) (i : ℕ) → map f (remove xs i) ≡ remove (map f xs) i
map-remove f [] zero = refl
map-remove f [] (suc i) = refl
map-remove f (x ∷ xs) zero = refl
map-remove f (x ∷ xs) (suc i) = ap (λ ys. f x ∷ ys) (map-remove f xs i)

-- what stands at the other digits of the row of children, which has one more
module _ (node_map m : ℕ) (cs : List Tree) (d : ℕ) (node_was : bit_at node_map d ≡ 0) (node_is : bit_at m d ≡ 1) (node_same : (x : ℕ) → x ≢ d → bit_at m x ≡ bit_at node_map x) (j : ℕ) (at_j : j ≡ rank node_map d) (in_j : j ≤ length cs) (s : Tree) where
  pub child_part : (x : ℕ) → x ≢ d → (if eqb (bit_at m x) 1 then option_map_or child (slice_get (insert cs j s) (rank m x)) free else free) ≡ (if eqb (bit_at node_map x) 1 then option_map_or child (slice_get cs (rank node_map x)) free else free)
  child_part x ne =
      rw (node_same x ne)
      (elim (cases_Bool (eqb (bit_at node_map x) 1)) [
        | inl a ↦
            (elim (cases_lt d x) [
              | inl b ↦
                  let q : rank m x ≡ rank node_map x + 1 = rw (lt-ltb d x b) at (rank_more node_map m d node_same node_was node_is x) in
                  let r : rank m x ≡ suc (rank node_map x) = omega (arith, q) in
                  rw (a, r, slice_get-insert_above cs j (rank node_map x) s in_j (omega (arith, at_j, rank-le node_map d x (omega arith)))) refl
              | inr b ↦
                  let q : rank m x ≡ rank node_map x + 0 = rw (le-ltb d x b) at (rank_more node_map m d node_same node_was node_is x) in
                  let r : rank m x ≡ rank node_map x = omega (arith, q) in
                  rw (a, r, slice_get-insert_below cs j (rank node_map x) s in_j (omega (arith, at_j, rank-lt node_map x d (eqb-true _ 1 a) (omega arith)))) refl
            ])
        | inr a ↦ rw a refl
      ])

-- an entry makes room for a child
module _ (data_map node_map : ℕ) (es : List Pair) (cs : List Tree) (d n m : ℕ) (data_was : bit_at data_map d ≡ 1) (data_is : bit_at n d ≡ 0) (data_same : (x : ℕ) → x ≢ d → bit_at n x ≡ bit_at data_map x) (node_was : bit_at node_map d ≡ 0) (node_is : bit_at m d ≡ 1) (node_same : (x : ℕ) → x ≢ d → bit_at m x ≡ bit_at node_map x) (i j : ℕ) (at_i : i ≡ rank data_map d) (at_j : j ≡ rank node_map d) (in_i : i < length es) (in_j : j ≤ length cs) (s : Tree) where
  pub deepened_here : slot_at n m (remove es i) (insert cs j s) d ≡ child s
  unfolding slot_at
  deepened_here =
      let a : eqb (bit_at n d) 1 ≡ false = ne_eqb (bit_at n d) 1 (λ e. omega (arith, e, data_is)) in
      let q : rank m d ≡ rank node_map d + 0 = rw (le-ltb d d (omega arith)) at (rank_more node_map m d node_same node_was node_is d) in
      let r : rank m d ≡ j = omega (arith, q, at_j) in
      rw (a, eq-eqb (bit_at m d) 1 node_is, r, slice_get-insert_same cs j s in_j) refl

  pub deepened_others : (x : ℕ) → x ≢ d → slot_at n m (remove es i) (insert cs j s) x ≡ slot_at data_map node_map es cs x
  unfolding slot_at
  deepened_others x ne =
      let back : (y : ℕ) → y ≢ d → bit_at data_map y ≡ bit_at n y = λ y h. sym (data_same y h) in
      rw (data_same x ne)
      (elim (cases_Bool (eqb (bit_at data_map x) 1)) [
        | inl a ↦
            (elim (cases_lt d x) [
              | inl b ↦
                  let q : rank data_map x ≡ rank n x + 1 = rw (lt-ltb d x b) at (rank_more n data_map d back data_is data_was x) in
                  let r : rank data_map x ≡ suc (rank n x) = omega (arith, q) in
                  rw (a, r, slice_get-remove_above es i (rank n x) in_i (omega (arith, at_i, r, rank-lt data_map d x data_was b))) refl
              | inr b ↦
                  let q : rank data_map x ≡ rank n x + 0 = rw (le-ltb d x b) at (rank_more n data_map d back data_is data_was x) in
                  let r : rank data_map x ≡ rank n x = omega (arith, q) in
                  rw (a, r, slice_get-remove_below es i (rank n x) in_i (omega (arith, at_i, r, rank-lt data_map x d (eqb-true _ 1 a) (omega arith)))) refl
            ])
        | inr a ↦ rw a (child_part node_map m cs d node_was node_is node_same j at_j in_j s x ne)
      ])

pub Fits-deepen : (data_map node_map n m d k l : ℕ) → Fits data_map node_map (k + 1) l → d < 32 → bit_at data_map d ≡ 1 → bit_at n d ≡ 0 → ((x : ℕ) → x ≢ d → bit_at n x ≡ bit_at data_map x) → bit_at node_map d ≡ 0 → bit_at m d ≡ 1 → ((x : ℕ) → x ≢ d → bit_at m x ≡ bit_at node_map x) → Fits n m k (l + 1)
Fits-deepen data_map node_map n m d k l f h data_was data_is data_same node_was node_is node_same = record {
  entries = (let q : rank data_map 32 ≡ rank n 32 + 1 = rw (lt-ltb d 32 h) at (rank_more n data_map d (λ y g. sym (data_same y g)) data_is data_was 32) in omega (arith, q, f.entries));
  children = (let q : rank m 32 ≡ rank node_map 32 + 1 = rw (lt-ltb d 32 h) at (rank_more node_map m d node_same node_was node_is 32) in omega (arith, q, f.children));
  apart = λ x. elim (cases_eq x d) [
    | inl e ↦ subst (λ y. bit_at n y + bit_at m y ≤ 1) (sym e) (omega (arith, data_is, node_is))
    | inr ne ↦ (let a = data_same x ne in let b = node_same x ne in omega (arith, a, b, f.apart x))
  ];
}

pub All-insert : {X : Type 0} (P : X → Type 0) (xs : List X) (i : ℕ) (y : X) → All P xs → P y → All P (insert xs i y)
All-insert P xs i y h p = All-append P (take i xs) (y ∷ drop i xs) (All-take P i xs h) (All-cons P y (drop i xs) p (All-drop P i xs h))

pub All-remove : {X : Type 0} (P : X → Type 0) (xs : List X) (i : ℕ) → All P xs → All P (remove xs i)
All-remove P xs i h = All-append P (take i xs) (drop (suc i) xs) (All-take P i xs h) (All-drop P (suc i) xs h)

pub insert-remove : {X : Type 0} (xs : List X) (i : ℕ) (y : X) → i < length xs → y ≡ get_or xs i y → insert (remove xs i) i y ≡ xs
insert-remove [] i y h e = absurd (omega arith)
insert-remove (x ∷ xs) zero y h e = ap (λ z. z ∷ xs) e
insert-remove (x ∷ xs) (suc i) y h e = ap (λ ys. x ∷ ys) (insert-remove xs i y (omega arith) e)

module _ {X Y C Z : Type 0} (key_plain : X → Literal) (value_plain : Y → Literal) (shape_of : C → Tree) (data_map node_map : ℕ) (es : List (Entry X Y)) (cs : List (Counted C Z)) (d n m : ℕ) (data_was : bit_at data_map d ≡ 1) (data_is : bit_at n d ≡ 0) (data_same : (x : ℕ) → x ≢ d → bit_at n x ≡ bit_at data_map x) (node_was : bit_at node_map d ≡ 0) (node_is : bit_at m d ≡ 1) (node_same : (x : ℕ) → x ≢ d → bit_at m x ≡ bit_at node_map x) (i j : ℕ) (at_i : i ≡ rank data_map d) (at_j : j ≡ rank node_map d) (in_i : i < length es) (in_j : j ≤ length cs) (y : Counted C Z) where
  pub slots_deepened_here : slots_of key_plain value_plain shape_of n m (remove es i) (insert cs j y) d ≡ child (shape_of (value_of y))
  slots_deepened_here =
      let f : Entry X Y → Pair = pair_of key_plain value_plain in
      let h : Counted C Z → Tree = λ c. shape_of (value_of c) in
      rw (map-remove f es i, map-insert h cs j y)
      (deepened_here data_map node_map (map f es) (map h cs) d n m data_was data_is data_same node_was node_is node_same i j at_i at_j (let a = length-map es f in omega (arith, a)) (let b = length-map cs h in omega (arith, b)) (h y))

  pub slots_deepened_others : (x : ℕ) → x ≢ d → slots_of key_plain value_plain shape_of n m (remove es i) (insert cs j y) x ≡ slots_of key_plain value_plain shape_of data_map node_map es cs x
  slots_deepened_others x ne =
      let f : Entry X Y → Pair = pair_of key_plain value_plain in
      let h : Counted C Z → Tree = λ c. shape_of (value_of c) in
      rw (map-remove f es i, map-insert h cs j y)
      (deepened_others data_map node_map (map f es) (map h cs) d n m data_was data_is data_same node_was node_is node_same i j at_i at_j (let a = length-map es f in omega (arith, a)) (let b = length-map cs h in omega (arith, b)) (h y) x ne)
