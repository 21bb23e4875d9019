-- What stands at the digits of a branch after an entry or a child went.
use Rattle.std.proofs.Common.{◌≡◌, ◌≢◌, ℕ, suc, ◌+◌, ◌<◌, ◌≤◌, false, eqb, List, map, length, inl, inr, refl, sym, arith, subst, eqb-true, ne_eqb, lt-ltb, le-ltb}
use Rattle.std.specs.Prelude.{if◌then◌else◌}
use Rattle.std.specs.List.{slice_get, remove}
use Rattle.std.specs.Option.{option_map_or}
use Rattle.std.specs.Int.{bit_at}
use Rattle.std.proofs.lemmas.Bool.{cases_Bool, cases_eq, cases_lt}
use Rattle.std.proofs.lemmas.List.{length-map}
use Rattle.cow_model.specs.Canon.{Tree, Slot, free, entry, child}
use Rattle.cow_model.specs.Slots.{slot_at, Fits, rank}
use Rattle.cow_model.specs.declared.plain.Literal.{Literal}
use Rattle.cow_model.specs.declared.value.Pair.{Pair}
use Rattle.cow_cell.specs.declared.counted.Counted.{Counted}
use Rattle.cow_champ.specs.Node.{slots_of, pair_of, value_of}
use Rattle.cow_champ.specs.declared.rows.Entry.{Entry}
use Rattle.cow_model.proofs.CanonRanks.{rank_more, rank-lt}
use Rattle.cow_champ.proofs.Changes.{slice_get-remove_above, slice_get-remove_below, map-remove}

-- a row of which one place goes, and the map that loses its digit: what stands at the other digits
module _ {X : Type 0} (was_map now_map : ℕ) (xs : List X) (d : ℕ) (was : bit_at was_map d ≡ 1) (is : bit_at now_map d ≡ 0) (same : (x : ℕ) → x ≢ d → bit_at now_map x ≡ bit_at was_map x) (i : ℕ) (at_i : i ≡ rank was_map d) (in_i : i < length xs) (slot : X → Slot) (rest : Slot) where
  pub one_less : (x : ℕ) → x ≢ d → (if eqb (bit_at now_map x) 1 then option_map_or slot (slice_get (remove xs i) (rank now_map x)) free else rest) ≡ (if eqb (bit_at was_map x) 1 then option_map_or slot (slice_get xs (rank was_map x)) free else rest)
  one_less x ne =
      let back : (y : ℕ) → y ≢ d → bit_at was_map y ≡ bit_at now_map y = λ y h. sym (same y h) in
      rw (same x ne)
      (elim (cases_Bool (eqb (bit_at was_map x) 1)) [
        | inl a ↦
            (elim (cases_lt d x) [
              | inl b ↦
                  let q : rank was_map x ≡ rank now_map x + 1 = rw (lt-ltb d x b) at (rank_more now_map was_map d back is was x) in
                  let r : rank was_map x ≡ suc (rank now_map x) = omega (arith, q) in
                  rw (a, r, slice_get-remove_above xs i (rank now_map x) in_i (omega (arith, at_i, r, rank-lt was_map d x was b))) refl
              | inr b ↦
                  let q : rank was_map x ≡ rank now_map x + 0 = rw (le-ltb d x b) at (rank_more now_map was_map d back is was x) in
                  let r : rank was_map x ≡ rank now_map x = omega (arith, q) in
                  rw (a, r, slice_get-remove_below xs i (rank now_map x) in_i (omega (arith, at_i, r, rank-lt was_map x d (eqb-true _ 1 a) (omega arith)))) refl
            ])
        | inr a ↦ rw a refl
      ])

-- an entry goes
module _ (data_map node_map : ℕ) (es : List Pair) (cs : List Tree) (d n : ℕ) (was : bit_at data_map d ≡ 1) (is : bit_at n d ≡ 0) (same : (x : ℕ) → x ≢ d → bit_at n x ≡ bit_at data_map x) (none : bit_at node_map d ≡ 0) (i : ℕ) (at_i : i ≡ rank data_map d) (in_i : i < length es) where
  pub withdrawn_here : slot_at n node_map (remove es i) cs d ≡ free
  unfolding slot_at
  withdrawn_here =
      let a : eqb (bit_at n d) 1 ≡ false = ne_eqb (bit_at n d) 1 (λ e. omega (arith, e, is)) in
      let b : eqb (bit_at node_map d) 1 ≡ false = ne_eqb (bit_at node_map d) 1 (λ e. omega (arith, e, none)) in
      rw (a, b) refl

  pub withdrawn_others : (x : ℕ) → x ≢ d → slot_at n node_map (remove es i) cs x ≡ slot_at data_map node_map es cs x
  unfolding slot_at
  withdrawn_others x ne = one_less data_map n es d was is same i at_i in_i entry (if eqb (bit_at node_map x) 1 then option_map_or child (slice_get cs (rank node_map x)) free else free) x ne

pub Fits-withdrawn : (data_map node_map n d k l : ℕ) → Fits data_map node_map (k + 1) l → d < 32 → bit_at data_map d ≡ 1 → bit_at n d ≡ 0 → ((x : ℕ) → x ≢ d → bit_at n x ≡ bit_at data_map x) → Fits n node_map k l
Fits-withdrawn data_map node_map n d k l f h was is same = record {
  entries = (let q : rank data_map 32 ≡ rank n 32 + 1 = rw (lt-ltb d 32 h) at (rank_more n data_map d (λ y g. sym (same y g)) is was 32) in omega (arith, q, f.entries));
  children = f.children;
  apart = λ x. elim (cases_eq x d) [
    | inl e ↦ subst (λ y. bit_at n y + bit_at node_map y ≤ 1) (sym e) (omega (arith, is, f.apart d))
    | inr ne ↦ (let a = same x ne in omega (arith, a, f.apart x))
  ];
}

-- a child goes
module _ (data_map node_map : ℕ) (es : List Pair) (cs : List Tree) (d m : ℕ) (none : bit_at data_map d ≡ 0) (was : bit_at node_map d ≡ 1) (is : bit_at m d ≡ 0) (same : (x : ℕ) → x ≢ d → bit_at m x ≡ bit_at node_map x) (j : ℕ) (at_j : j ≡ rank node_map d) (in_j : j < length cs) where
  pub parted_others : (x : ℕ) → x ≢ d → slot_at data_map m es (remove cs j) x ≡ slot_at data_map node_map es cs x
  unfolding slot_at
  parted_others x ne =
      elim (cases_Bool (eqb (bit_at data_map x) 1)) [
        | inl a ↦ rw a refl
        | inr a ↦ rw a (one_less node_map m cs d was is same j at_j in_j child free x ne)
      ]

pub Fits-parted : (data_map node_map m d k l : ℕ) → Fits data_map node_map k (l + 1) → d < 32 → bit_at node_map d ≡ 1 → bit_at m d ≡ 0 → ((x : ℕ) → x ≢ d → bit_at m x ≡ bit_at node_map x) → Fits data_map m k l
Fits-parted data_map node_map m d k l f h was is same = record {
  entries = f.entries;
  children = (let q : rank node_map 32 ≡ rank m 32 + 1 = rw (lt-ltb d 32 h) at (rank_more m node_map d (λ y g. sym (same y g)) is was 32) in omega (arith, q, f.children));
  apart = λ x. elim (cases_eq x d) [
    | inl e ↦ subst (λ y. bit_at data_map y + bit_at m y ≤ 1) (sym e) (omega (arith, is, f.apart d))
    | inr ne ↦ (let a = same x ne in omega (arith, a, f.apart x))
  ];
}

-- the same of rows of entries and of handles
module _ {X Y C Z : Type 0} (key_plain : X → Literal) (value_plain : Y → Literal) (shape_of : C → Tree) (data_map node_map : ℕ) (es : List (Entry X Y)) (cs : List (Counted C Z)) (d n : ℕ) where
  module _ (was : bit_at data_map d ≡ 1) (is : bit_at n d ≡ 0) (same : (x : ℕ) → x ≢ d → bit_at n x ≡ bit_at data_map x) (none : bit_at node_map d ≡ 0) (i : ℕ) (at_i : i ≡ rank data_map d) (in_i : i < length es) where
    pub slots_withdrawn_here : slots_of key_plain value_plain shape_of n node_map (remove es i) cs d ≡ free
    slots_withdrawn_here =
        let f : Entry X Y → Pair = pair_of key_plain value_plain in
        rw (map-remove f es i) (withdrawn_here data_map node_map (map f es) _ d n was is same none i at_i (let a = length-map es f in omega (arith, a)))

    pub slots_withdrawn_others : (x : ℕ) → x ≢ d → slots_of key_plain value_plain shape_of n node_map (remove es i) cs x ≡ slots_of key_plain value_plain shape_of data_map node_map es cs x
    slots_withdrawn_others x ne =
        let f : Entry X Y → Pair = pair_of key_plain value_plain in
        rw (map-remove f es i) (withdrawn_others data_map node_map (map f es) _ d n was is same none i at_i (let a = length-map es f in omega (arith, a)) x ne)

  module _ (none : bit_at data_map d ≡ 0) (was : bit_at node_map d ≡ 1) (is : bit_at n d ≡ 0) (same : (x : ℕ) → x ≢ d → bit_at n x ≡ bit_at node_map x) (j : ℕ) (at_j : j ≡ rank node_map d) (in_j : j < length cs) where
    pub slots_parted_others : (x : ℕ) → x ≢ d → slots_of key_plain value_plain shape_of data_map n es (remove cs j) x ≡ slots_of key_plain value_plain shape_of data_map node_map es cs x
    slots_parted_others x ne =
        let h : Counted C Z → Tree = λ c. shape_of (value_of c) in
        rw (map-remove h cs j) (parted_others data_map node_map _ (map h cs) d n none was is same j at_j (let a = length-map cs h in omega (arith, a)) x ne)
