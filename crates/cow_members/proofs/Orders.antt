-- The hashes of keys that are closed up, opened up or exchanged, and the lists of keys that keep their order.
use Rattle.std.proofs.Common.{◌≡◌, ◌≢◌, ℕ, zero, suc, ◌+◌, ◌-◌, ◌<◌, ◌≤◌, ◌^◌, min, cond, eqb, leb, Bool, true, false, ◌||◌, List, [], ◌∷◌, ◌++◌, length, map, get_or, set, take, insert, remove, swap, slice_get, Option, Some, None, All, IsPermutation, count_by, refl, sym, ap, subst, ◌∙◌, arith, inl, inr}
use Rattle.std.specs.Prelude.{option_map}
use Rattle.std.proofs.lemmas.List.{length-set, length-take-le, take-map, map-append, append-nil, drop_all}
use Rattle.std.proofs.lemmas.List.Elements.{All-cons}
use Rattle.std.proofs.lemmas.List.Sums.{sum_by-cons}
use Rattle.std.proofs.lemmas.Bool.{cases_eq}
use Rattle.std.proofs.lemmas.Option.{slice_get_within, slice_get_past, get_or_from_slice_get}
use Rattle.std.proofs.lemmas.List.Edits.{swap_is, length-swap, length-insert, length-remove}
use Rattle.std.proofs.lemmas.List.Sorted.{All-permutation, length_permutation, sum_by-IsPermutation, IsPermutation-map, IsPermutation-insert, IsPermutation-remove, IsPermutation-swap}
use native.Mathlib.Decide.{dec_lt}
use borrow.Author.Tests.{eq-eqb, lt-ltb, le-ltb, leb-true, leb-false}
use Rattle.cow_model.specs.Members.{member}
use Rattle.cow_model.specs.declared.plain.Literal.{Literal}
use Rattle.cow_model.proofs.Ascending.{on_side, ascending_cons, ascending_permutes}
use Rattle.cow_model.specs.Purse.{unit_if}
use Rattle.cow_table.specs.Pairs.{Pair, TableView, hash_at, Gains, Loses, Renames, Closes, Opens, Below}
use Rattle.cow_members.specs.Ascents.{Ascends}
use Rattle.cow_members.specs.Members.{MembersView, IsIndexed, AreSound, listed, set_of}
use Rattle.cow_members.specs.Orders.{Exchanges, followed_by, staying}
use Rattle.cow_members.proofs.Ascents.{member-ascending, ascends-in_order}
use Rattle.cow_members.proofs.Listed.{staying-kept, staying-gone, whole}
use Rattle.cow_members.proofs.Loops.{front-more, take-less}
use Rattle.cow_members.proofs.Sets.{sound-out}
use Rattle.cow_members.proofs.Lookups.{unequal, get-same, get-other}

-- ---- items at their places, once one has gone or come
module _ {T : Type 0} where
  pub get-remove-below : (xs : List T) (i q : ℕ) → q < i → slice_get (remove xs i) q ≡ slice_get xs q
  get-remove-below xs zero q l = absurd (omega arith)
  get-remove-below [] (suc i) q l = refl
  get-remove-below (x ∷ xs) (suc i) zero l = refl
  get-remove-below (x ∷ xs) (suc i) (suc q) l = get-remove-below xs i q (omega arith)

  next : (x : T) (xs : List T) (q : ℕ) → slice_get xs q ≡ slice_get (x ∷ xs) (q + 1)
  next x xs q = let e : q + 1 ≡ suc q = omega arith in ap (λ k. slice_get (x ∷ xs) k) (sym e)

  pub get-remove-above : (xs : List T) (i q : ℕ) → i ≤ q → slice_get (remove xs i) q ≡ slice_get xs (q + 1)
  get-remove-above [] zero q l = refl
  get-remove-above [] (suc i) q l = refl
  get-remove-above (x ∷ xs) zero q l = next x xs q
  get-remove-above (x ∷ xs) (suc i) zero l = absurd (omega arith)
  get-remove-above (x ∷ xs) (suc i) (suc q) l =
      let e : q + 1 + 1 ≡ suc q + 1 = omega arith in
      get-remove-above xs i q (omega arith) ∙ next x xs (q + 1) ∙ ap (λ k. slice_get (x ∷ xs) k) e

  pub get-insert-below : (xs : List T) (i q : ℕ) (y : T) → q < i → i ≤ length xs → slice_get (insert xs i y) q ≡ slice_get xs q
  get-insert-below xs zero q y l w = absurd (omega arith)
  get-insert-below [] (suc i) q y l w = absurd (omega arith)
  get-insert-below (x ∷ xs) (suc i) zero y l w = refl
  get-insert-below (x ∷ xs) (suc i) (suc q) y l w = get-insert-below xs i q y (omega arith) (omega arith)

  pub get-insert-at : (xs : List T) (i : ℕ) (y : T) → i ≤ length xs → slice_get (insert xs i y) i ≡ Some y
  get-insert-at xs zero y w = refl
  get-insert-at [] (suc i) y w = absurd (omega arith)
  get-insert-at (x ∷ xs) (suc i) y w = get-insert-at xs i y (omega arith)

  pub get-insert-above : (xs : List T) (i q : ℕ) (y : T) → i < q → i ≤ length xs → slice_get (insert xs i y) q ≡ slice_get xs (q - 1)
  get-insert-above xs i zero y l w = absurd (omega arith)
  get-insert-above xs zero (suc q) y l w = let e : suc q - 1 ≡ q = omega arith in ap (λ k. slice_get xs k) (sym e)
  get-insert-above [] (suc i) (suc q) y l w = absurd (omega arith)
  get-insert-above (x ∷ xs) (suc i) (suc zero) y l w = absurd (omega arith)
  get-insert-above (x ∷ xs) (suc i) (suc (suc q)) y l w =
      let e : suc (suc q) - 1 ≡ suc (suc q - 1) = omega arith in
      get-insert-above xs i (suc q) y (omega arith) (omega arith) ∙ ap (λ k. slice_get (x ∷ xs) k) (sym e)

-- ---- the hashes at the positions
below-by : (o : Option ℕ) (h : ℕ) → o ≡ None → o ≡ Some h → ⊥
below-by o h n s = let e : None ≡ Some h = sym n ∙ s in cc

module _ {T : Type 0} (hash : T → ℕ) (ps : List Pair) (xs : List T) (looks : (q : ℕ) → hash_at ps q ≡ option_map hash (slice_get xs q)) where
  past : (q : ℕ) → length xs ≤ q → hash_at ps q ≡ None
  past q l = looks q ∙ ap (λ o. option_map hash o) (slice_get_past xs q l)

  -- each position is one of a key
  pub looks-below : (n : ℕ) → length xs ≤ n → Below n ps
  looks-below n l p h e = elim (dec_lt p n) as (λ _. p < n) [
    | yes w ↦ w
    | no w ↦ absurd (below-by (hash_at ps p) h (past p (omega arith)) e)
  ]

  module _ (i : ℕ) (gone : List Pair) (loses : Loses i ps gone) where
    pub gone-at : hash_at gone i ≡ None
    gone-at = loses.lookup i ∙ ap (λ t. cond t None (hash_at ps i)) (eq-eqb i i refl)

    gone-other : (q : ℕ) → i ≢ q → hash_at gone q ≡ hash_at ps q
    gone-other q d = loses.lookup q ∙ ap (λ t. cond t None (hash_at ps q)) (unequal i q d)

    pub gone-below : (n : ℕ) → length xs ≤ n → Below n gone
    gone-below n l p h e = elim (cases_eq i p) as (λ _. p < n) [
      | inl w ↦ absurd (below-by (hash_at gone p) h (ap (hash_at gone) (sym w) ∙ gone-at) e)
      | inr w ↦ looks-below n l p h (sym (gone-other p w) ∙ e)
    ]

    -- a key is taken out, and those behind it close up
    pub looks-closed : (after : List Pair) → Closes i gone after → (q : ℕ) → hash_at after q ≡ option_map hash (slice_get (remove xs i) q)
    looks-closed after closes q = closes.lookup q ∙ elim (dec_lt q i) as (λ _. hash_at gone (cond (leb (suc q) i) q (q + 1)) ≡ option_map hash (slice_get (remove xs i) q)) [
      | yes l ↦ ap (λ t. hash_at gone (cond t q (q + 1))) (lt-ltb q i l) ∙ gone-other q (λ w. omega arith) ∙ looks q ∙ ap (λ o. option_map hash o) (sym (get-remove-below xs i q l))
      | no l ↦ ap (λ t. hash_at gone (cond t q (q + 1))) (le-ltb q i (omega arith)) ∙ gone-other (q + 1) (λ w. omega arith) ∙ looks (q + 1) ∙ ap (λ o. option_map hash o) (sym (get-remove-above xs i q (omega arith)))
    ]

  module _ (i : ℕ) (opened : List Pair) (opens : Opens i ps opened) where
    pub open-at : hash_at opened i ≡ None
    open-at = opens.lookup i ∙ ap (λ t. cond t None (hash_at ps (cond (leb (suc i) i) i (i - 1)))) (eq-eqb i i refl)

    opened-other : (q : ℕ) → q ≢ i → hash_at opened q ≡ hash_at ps (cond (leb (suc q) i) q (q - 1))
    opened-other q d = opens.lookup q ∙ ap (λ t. cond t None (hash_at ps (cond (leb (suc q) i) q (q - 1)))) (unequal q i d)

    -- those from a position on open up, and a key comes there
    pub looks-opened : (after : List Pair) (x : T) (h : ℕ) → h ≡ hash x → i ≤ length xs → Gains (record { hash = h; position = i }) opened after
        → (q : ℕ) → hash_at after q ≡ option_map hash (slice_get (insert xs i x) q)
    looks-opened after x h e w gains q = gains.lookup q ∙ elim (cases_eq i q) as (λ _. cond (eqb i q) (Some h) (hash_at opened q) ≡ option_map hash (slice_get (insert xs i x) q)) [
      | inl v ↦ ap (λ t. cond t (Some h) (hash_at opened q)) (eq-eqb i q v) ∙ ap (λ (y : ℕ). Some y) e
          ∙ sym (ap (λ o. option_map hash o) (ap (λ k. slice_get (insert xs i x) k) (sym v) ∙ get-insert-at xs i x w))
      | inr v ↦ ap (λ t. cond t (Some h) (hash_at opened q)) (unequal i q v) ∙ opened-other q (λ z. v (sym z))
          ∙ elim (dec_lt q i) as (λ _. hash_at ps (cond (leb (suc q) i) q (q - 1)) ≡ option_map hash (slice_get (insert xs i x) q)) [
            | yes l ↦ ap (λ t. hash_at ps (cond t q (q - 1))) (lt-ltb q i l) ∙ looks q ∙ ap (λ o. option_map hash o) (sym (get-insert-below xs i q x l w))
            | no l ↦ ap (λ t. hash_at ps (cond t q (q - 1))) (le-ltb q i (omega arith)) ∙ looks (q - 1) ∙ ap (λ o. option_map hash o) (sym (get-insert-above xs i q x (omega arith) w))
          ]
    ]

-- positions past all keys need no closing and no opening
pub closes-none : (i count : ℕ) (ps : List Pair) → count ≤ i → hash_at ps i ≡ None → Below (count + 1) ps → Closes i ps ps
closes-none i count ps l none below = record {
  lookup = λ q. elim (dec_lt q i) as (λ _. hash_at ps q ≡ hash_at ps (cond (leb (suc q) i) q (q + 1))) [
    | yes w ↦ ap (λ t. hash_at ps (cond t q (q + 1))) (sym (lt-ltb q i w))
    | no w ↦ free q (omega arith) ∙ sym (free (q + 1) (omega arith)) ∙ ap (λ t. hash_at ps (cond t q (q + 1))) (sym (le-ltb q i (omega arith)))
  ];
  count = refl;
}
  where
    lacks : (q : ℕ) (o : Option ℕ) → hash_at ps q ≡ o → count < q → o ≡ None
    lacks q None e w = refl
    lacks q (Some h) e w = absurd (omega (arith, below q h e))

    free : (q : ℕ) → i ≤ q → hash_at ps q ≡ None
    free q w = elim (cases_eq i q) as (λ _. hash_at ps q ≡ None) [
      | inl v ↦ ap (hash_at ps) (sym v) ∙ none
      | inr v ↦ lacks q (hash_at ps q) refl (omega (arith, v))
    ]

pub opens-none : (i count : ℕ) (ps : List Pair) → count ≤ i → Below count ps → Opens i ps ps
opens-none i count ps l below = record {
  lookup = λ q. elim (cases_eq q i) as (λ _. hash_at ps q ≡ cond (eqb q i) None (hash_at ps (cond (leb (suc q) i) q (q - 1)))) [
    | inl v ↦ free q (omega (arith, v)) ∙ ap (λ t. cond t None (hash_at ps (cond (leb (suc q) i) q (q - 1)))) (sym (eq-eqb q i v))
    | inr v ↦ elim (dec_lt q i) as (λ _. hash_at ps q ≡ hash_at ps (cond (leb (suc q) i) q (q - 1))) [
      | yes w ↦ ap (λ t. hash_at ps (cond t q (q - 1))) (sym (lt-ltb q i w))
      | no w ↦ free q (omega arith) ∙ sym (free (q - 1) (omega (arith, v))) ∙ ap (λ t. hash_at ps (cond t q (q - 1))) (sym (le-ltb q i (omega arith)))
    ] ∙ ap (λ t. cond t None (hash_at ps (cond (leb (suc q) i) q (q - 1)))) (sym (unequal q i v))
  ];
  count = refl;
}
  where
    lacks : (q : ℕ) (o : Option ℕ) → hash_at ps q ≡ o → count ≤ q → o ≡ None
    lacks q None e w = refl
    lacks q (Some h) e w = absurd (omega (arith, below q h e))

    free : (q : ℕ) → i ≤ q → hash_at ps q ≡ None
    free q w = lacks q (hash_at ps q) refl (omega arith)

-- ---- two keys change places
module _ (i first j second free : ℕ) (ps one : List Pair) (apart : i ≢ j) (fi : i ≢ free) (fj : j ≢ free) (away : Renames first i free ps one) where
  pub one-first : hash_at one i ≡ None
  one-first = away.lookup i ∙ ap (λ t. cond t (Some first) (cond (eqb i i) None (hash_at ps i))) (unequal free i (λ e. fi (sym e))) ∙ ap (λ t. cond t None (hash_at ps i)) (eq-eqb i i refl)

  pub one-second : hash_at ps j ≡ Some second → hash_at one j ≡ Some second
  one-second there = away.lookup j ∙ ap (λ t. cond t (Some first) (cond (eqb i j) None (hash_at ps j))) (unequal free j (λ e. fj (sym e))) ∙ ap (λ t. cond t None (hash_at ps j)) (unequal i j apart) ∙ there

  one-free : hash_at one free ≡ Some first
  one-free = away.lookup free ∙ ap (λ t. cond t (Some first) (cond (eqb i free) None (hash_at ps free))) (eq-eqb free free refl)

  module _ (two : List Pair) (over : Renames second j i one two) where
    pub two-second : hash_at two j ≡ None
    two-second = over.lookup j ∙ ap (λ t. cond t (Some second) (cond (eqb j j) None (hash_at one j))) (unequal i j apart) ∙ ap (λ t. cond t None (hash_at one j)) (eq-eqb j j refl)

    pub two-free : hash_at two free ≡ Some first
    two-free = over.lookup free ∙ ap (λ t. cond t (Some second) (cond (eqb j free) None (hash_at one free))) (unequal i free fi) ∙ ap (λ t. cond t None (hash_at one free)) (unequal j free fj) ∙ one-free

    -- another pair than these
    at-two : (q : ℕ) → q ≢ i → q ≢ j → q ≢ free → hash_at two q ≡ hash_at ps q
    at-two q qi qj qf = over.lookup q
        ∙ ap (λ t. cond t (Some second) (cond (eqb j q) None (hash_at one q))) (unequal i q (λ e. qi (sym e)))
        ∙ ap (λ t. cond t None (hash_at one q)) (unequal j q (λ e. qj (sym e)))
        ∙ away.lookup q
        ∙ ap (λ t. cond t (Some first) (cond (eqb i q) None (hash_at ps q))) (unequal free q (λ e. qf (sym e)))
        ∙ ap (λ t. cond t None (hash_at ps q)) (unequal i q (λ e. qi (sym e)))

    module _ (after : List Pair) (none : hash_at ps free ≡ None) (back : Renames first free j two after) where
      exchanged-at : (q : ℕ) → hash_at after q ≡ cond (eqb i q) (Some second) (cond (eqb j q) (Some first) (hash_at ps q))
      exchanged-at q = back.lookup q ∙ elim (cases_eq j q) as (λ _. cond (eqb j q) (Some first) (cond (eqb free q) None (hash_at two q)) ≡ cond (eqb i q) (Some second) (cond (eqb j q) (Some first) (hash_at ps q))) [
        | inl w ↦ ap (λ t. cond t (Some first) (cond (eqb free q) None (hash_at two q))) (eq-eqb j q w)
            ∙ sym (ap (λ t. cond t (Some second) (cond (eqb j q) (Some first) (hash_at ps q))) (unequal i q (λ e. apart (e ∙ sym w))) ∙ ap (λ t. cond t (Some first) (hash_at ps q)) (eq-eqb j q w))
        | inr w ↦ ap (λ t. cond t (Some first) (cond (eqb free q) None (hash_at two q))) (unequal j q w)
            ∙ elim (cases_eq i q) as (λ _. cond (eqb free q) None (hash_at two q) ≡ cond (eqb i q) (Some second) (cond (eqb j q) (Some first) (hash_at ps q))) [
              | inl v ↦ ap (λ t. cond t None (hash_at two q)) (unequal free q (λ e. fi (v ∙ sym e))) ∙ over.lookup q
                  ∙ ap (λ t. cond t (Some second) (cond (eqb j q) None (hash_at one q))) (eq-eqb i q v)
                  ∙ sym (ap (λ t. cond t (Some second) (cond (eqb j q) (Some first) (hash_at ps q))) (eq-eqb i q v))
              | inr v ↦ elim (cases_eq free q) as (λ _. cond (eqb free q) None (hash_at two q) ≡ hash_at ps q) [
                | inl u ↦ ap (λ t. cond t None (hash_at two q)) (eq-eqb free q u) ∙ sym (ap (hash_at ps) (sym u) ∙ none)
                | inr u ↦ ap (λ t. cond t None (hash_at two q)) (unequal free q u) ∙ at-two q (λ e. v (sym e)) (λ e. w (sym e)) (λ e. u (sym e))
              ] ∙ sym (ap (λ t. cond t (Some second) (cond (eqb j q) (Some first) (hash_at ps q))) (unequal i q v) ∙ ap (λ t. cond t (Some first) (hash_at ps q)) (unequal j q w))
            ]
      ]

      pub exchanges-by : Exchanges i first j second ps after
      exchanges-by = record { lookup = exchanged-at; count = back.count ∙ over.count ∙ away.count }

module _ {T : Type 0} where
  -- the list after two items have changed places
  swapped-as : (xs : List T) (i j : ℕ) (x y : T) → slice_get xs i ≡ Some x → slice_get xs j ≡ Some y → swap xs i j ≡ set (set xs i y) j x
  swapped-as xs i j x y p q =
      sym (swap_is xs i j x (slice_get_within xs i x p) (slice_get_within xs j y q))
      ∙ ap (λ z. set (set xs i z) j (get_or xs i x)) (get_or_from_slice_get xs j y x q) ∙ ap (λ z. set (set xs i y) j z) (get_or_from_slice_get xs i x x p)

  pub looks-swapped : (hash : T → ℕ) (ps after : List Pair) (xs : List T) (i j : ℕ) (x y : T) → slice_get xs i ≡ Some x → slice_get xs j ≡ Some y → i ≢ j → ((q : ℕ) → hash_at ps q ≡ option_map hash (slice_get xs q))
      → Exchanges i (hash x) j (hash y) ps after → (q : ℕ) → hash_at after q ≡ option_map hash (slice_get (swap xs i j) q)
  looks-swapped hash ps after xs i j x y p r d looks e q =
      let is = swapped-as xs i j x y p r in
      let li = slice_get_within xs i x p in
      let lj = slice_get_within xs j y r in
      e.lookup q ∙ elim (cases_eq j q) as (λ _. cond (eqb i q) (Some (hash y)) (cond (eqb j q) (Some (hash x)) (hash_at ps q)) ≡ option_map hash (slice_get (set (set xs i y) j x) q)) [
        | inl w ↦ ap (λ t. cond t (Some (hash y)) (cond (eqb j q) (Some (hash x)) (hash_at ps q))) (unequal i q (λ z. d (z ∙ sym w))) ∙ ap (λ t. cond t (Some (hash x)) (hash_at ps q)) (eq-eqb j q w)
            ∙ sym (ap (λ o. option_map hash o) (ap (λ k. slice_get (set (set xs i y) j x) k) (sym w) ∙ get-same (set xs i y) j x (omega (arith, length-set xs i y, lj))))
        | inr w ↦ elim (cases_eq i q) as (λ _. cond (eqb i q) (Some (hash y)) (cond (eqb j q) (Some (hash x)) (hash_at ps q)) ≡ option_map hash (slice_get (set (set xs i y) j x) q)) [
          | inl v ↦ ap (λ t. cond t (Some (hash y)) (cond (eqb j q) (Some (hash x)) (hash_at ps q))) (eq-eqb i q v)
              ∙ sym (ap (λ o. option_map hash o) (get-other (set xs i y) j q x (λ z. w (sym z)) ∙ ap (λ k. slice_get (set xs i y) k) (sym v) ∙ get-same xs i y li))
          | inr v ↦ ap (λ t. cond t (Some (hash y)) (cond (eqb j q) (Some (hash x)) (hash_at ps q))) (unequal i q v) ∙ ap (λ t. cond t (Some (hash x)) (hash_at ps q)) (unequal j q w) ∙ looks q
              ∙ sym (ap (λ o. option_map hash o) (get-other (set xs i y) j q x (λ z. w (sym z)) ∙ get-other xs i q y (λ z. v (sym z))))
        ]
      ] ∙ ap (λ l. option_map hash (slice_get l q)) (sym is)

-- ---- members stay sound
module _ {K : Type 0} (plain : K → Literal) (hash_of : Literal → ℕ) (P : K → Type 0) where
  -- one more key comes, anywhere
  sound-in : (m n : MembersView K) (k : K) → AreSound plain hash_of P m → member (plain k) (listed plain m) ≡ false → IsPermutation (k ∷ m.keys.items) n.keys.items → All P (k ∷ m.keys.items)
      → IsIndexed (λ x. hash_of (plain x)) n → n.keys.capacity ≡ m.keys.capacity → n.table.room + 1 ≡ m.table.room → AreSound plain hash_of P n
  sound-in m n k s lacks h all indexed capacity room =
      let long = length_permutation (k ∷ m.keys.items) n.keys.items h in
      record {
        settled = All-permutation P (k ∷ m.keys.items) n.keys.items h all;
        indexed = indexed;
        apart = subst Ascends (sym (ascending_permutes (map plain (k ∷ m.keys.items)) (map plain n.keys.items) (IsPermutation-map plain (k ∷ m.keys.items) n.keys.items h) ∙ ascending_cons (plain k) (map plain m.keys.items)))
            (ascends-in_order (plain k) (set_of plain m) s.apart (member-ascending (plain k) (listed plain m) ∙ lacks));
        roomy = subst (λ c. min c (2 ^ 31) ≤ length n.keys.items + n.table.room) (sym capacity) (omega (arith, long, room, s.roomy));
      }

  -- the same keys in another order
  sound-turned : (m n : MembersView K) → AreSound plain hash_of P m → IsPermutation m.keys.items n.keys.items → IsIndexed (λ x. hash_of (plain x)) n
      → n.keys.capacity ≡ m.keys.capacity → n.table.room ≡ m.table.room → AreSound plain hash_of P n
  sound-turned m n s h indexed capacity room =
      let long = length_permutation m.keys.items n.keys.items h in
      record {
        settled = All-permutation P m.keys.items n.keys.items h s.settled;
        indexed = indexed;
        apart = subst Ascends (sym (ascending_permutes (map plain m.keys.items) (map plain n.keys.items) (IsPermutation-map plain m.keys.items n.keys.items h))) s.apart;
        roomy = subst (λ c. min c (2 ^ 31) ≤ length n.keys.items + n.table.room) (sym capacity) (omega (arith, long, room, s.roomy));
      }

  -- a key is taken out, and those behind it close up
  pub sound-closed : (m : MembersView K) (i : ℕ) (k : K) (gone after : TableView) → AreSound plain hash_of P m → slice_get m.keys.items i ≡ Some k → Loses i m.table.pairs gone.pairs → gone.room ≡ m.table.room + 1
      → Closes i gone.pairs after.pairs → after.room ≡ gone.room → AreSound plain hash_of P (record { keys = record m.keys { items = remove m.keys.items i }; table = after })
  sound-closed m i k gone after s e loses more closes still =
      let xs = m.keys.items in
      let l = slice_get_within xs i k e in
      let long = length-remove xs i l in
      let n : MembersView K = record { keys = record m.keys { items = remove xs i }; table = after } in
      sound-out plain hash_of P m n k s (IsPermutation-remove xs i k l (sym (get_or_from_slice_get xs i k k e)))
      (record {
        lookup = looks-closed (λ x. hash_of (plain x)) m.table.pairs xs s.indexed.lookup i gone.pairs loses after.pairs closes;
        count = omega (arith, long, loses.count, closes.count, s.indexed.count);
        front = s.indexed.front;
        fits = omega (arith, long, s.indexed.fits);
        small = omega (arith, long, s.indexed.small);
      })
      refl (still ∙ more)

  -- those from a position on open up, and a key comes there
  pub sound-opened : (m : MembersView K) (i : ℕ) (k : K) (h : ℕ) (opened after : TableView) → AreSound plain hash_of P m → P k → h ≡ hash_of (plain k) → member (plain k) (listed plain m) ≡ false → i ≤ length m.keys.items
      → length m.keys.items < m.keys.capacity → length m.keys.items < 2 ^ 31 → Opens i m.table.pairs opened.pairs → opened.room ≡ m.table.room
      → Gains (record { hash = h; position = i }) opened.pairs after.pairs → after.room + 1 ≡ opened.room → AreSound plain hash_of P (record { keys = record m.keys { items = insert m.keys.items i k }; table = after })
  sound-opened m i k h opened after s p e lacks w fits small opens still gains room =
      let xs = m.keys.items in
      let long = length-insert xs i k w in
      let n : MembersView K = record { keys = record m.keys { items = insert xs i k }; table = after } in
      sound-in m n k s lacks (IsPermutation-insert xs i k) (All-cons P k xs p s.settled)
      (record {
        lookup = looks-opened (λ x. hash_of (plain x)) m.table.pairs xs s.indexed.lookup i opened.pairs opens after.pairs k h e w gains;
        count = omega (arith, long, gains.count, opens.count, s.indexed.count);
        front = s.indexed.front;
        fits = omega (arith, long, fits);
        small = omega (arith, long, small);
      })
      refl (room ∙ still)

  -- two keys change places
  pub sound-swapped : (m : MembersView K) (i j : ℕ) (x y : K) (after : TableView) → AreSound plain hash_of P m → slice_get m.keys.items i ≡ Some x → slice_get m.keys.items j ≡ Some y → i ≢ j
      → Exchanges i (hash_of (plain x)) j (hash_of (plain y)) m.table.pairs after.pairs → after.room ≡ m.table.room → AreSound plain hash_of P (record { keys = record m.keys { items = swap m.keys.items i j }; table = after })
  sound-swapped m i j x y after s p r d e room =
      let xs = m.keys.items in
      let long = length-swap xs i j in
      let n : MembersView K = record { keys = record m.keys { items = swap xs i j }; table = after } in
      sound-turned m n s (IsPermutation-swap xs (swap xs i j) i j (slice_get_within xs i x p) (slice_get_within xs j y r) refl)
      (record {
        lookup = looks-swapped (λ k. hash_of (plain k)) m.table.pairs after.pairs xs i j x y p r d s.indexed.lookup e;
        count = omega (arith, long, e.count, s.indexed.count);
        front = s.indexed.front;
        fits = omega (arith, long, s.indexed.fits);
        small = omega (arith, long, s.indexed.small);
      })
      refl room

-- ---- keys that stand first in their order
module _ {T : Type 0} where
  pub there : (xs : List T) (i : ℕ) → i < length xs → (x : T) × (slice_get xs i ≡ Some x)
  there [] i l = absurd (omega arith)
  there (x ∷ xs) zero l = (x, refl)
  there (x ∷ xs) (suc i) l = there xs i (omega arith)

  front-set : (xs : List T) (i j : ℕ) (x y : T) → i ≤ j → slice_get xs i ≡ Some x → slice_get xs j ≡ Some y → take (i + 1) (set (set xs i y) j x) ≡ take i xs ++ y ∷ []
  front-set [] i j x y l p q = cc
  front-set (z ∷ xs) zero zero x y l p q = let e : x ≡ y = cc in ap (λ w. w ∷ []) e
  front-set (z ∷ xs) zero (suc j) x y l p q = refl
  front-set (z ∷ xs) (suc i) zero x y l p q = absurd (omega arith)
  front-set (z ∷ xs) (suc i) (suc j) x y l p q =
      let n : suc i + 1 ≡ suc (i + 1) = omega arith in
      ap (λ k. take k (z ∷ set (set xs i y) j x)) n ∙ ap (λ r. z ∷ r) (front-set xs i j x y (omega arith) p q)

  -- an item goes to the end of the front
  pub front-swap : (xs : List T) (i j : ℕ) (y : T) → i ≤ j → slice_get xs j ≡ Some y → take (i + 1) (swap xs i j) ≡ take i xs ++ y ∷ []
  front-swap xs i j y l q =
      let it = there xs i (omega (arith, l, slice_get_within xs j y q)) in
      ap (take (i + 1)) (swapped-as xs i j it.0 y it.1 q) ∙ front-set xs i j it.0 y l it.1 q

  -- and those behind both stay
  pub rest-swap : (xs : List T) (i j q : ℕ) (y : T) → i ≤ j → j < q → slice_get xs j ≡ Some y → slice_get (swap xs i j) q ≡ slice_get xs q
  rest-swap xs i j q y l m e =
      let it = there xs i (omega (arith, l, slice_get_within xs j y e)) in
      ap (λ r. slice_get r q) (swapped-as xs i j it.0 y it.1 e) ∙ get-other (set xs i y) j q it.0 (λ w. omega (arith, w, m)) ∙ get-other xs i q y (λ w. omega (arith, w, l, m))

  set-itself : (xs : List T) (i : ℕ) (x : T) → slice_get xs i ≡ Some x → set xs i x ≡ xs
  set-itself [] i x e = refl
  set-itself (y ∷ xs) zero x e = let z : y ≡ x = cc in ap (λ w. w ∷ xs) (sym z)
  set-itself (y ∷ xs) (suc i) x e = ap (λ r. y ∷ r) (set-itself xs i x e)

  -- an item in its own place
  pub swap-same : (xs : List T) (i : ℕ) → i < length xs → swap xs i i ≡ xs
  swap-same xs i l =
      let it = there xs i l in
      swapped-as xs i i it.0 it.0 it.1 it.1 ∙ ap (λ r. set r i it.0) (set-itself xs i it.0 it.1) ∙ set-itself xs i it.0 it.1

  -- without the last
  pub shorter : (xs : List T) (n : ℕ) → length xs ≡ n + 1 → remove xs n ≡ take n xs
  shorter xs n e = ap (λ r. take n xs ++ r) (drop_all (suc n) xs (omega (arith, e))) ∙ append-nil (take n xs)

module _ {K : Type 0} (plain : K → Literal) where
  pub units-swap : (q : Literal → Bool) (xs : List K) (i j : ℕ) → i < length xs → j < length xs → count_by q (map plain (swap xs i j)) ≡ count_by q (map plain xs)
  units-swap q xs i j li lj = sum_by-IsPermutation (λ y. cond (q y) 1 0) (map plain xs) (map plain (swap xs i j)) (IsPermutation-map plain xs (swap xs i j) (IsPermutation-swap xs (swap xs i j) i j li lj refl))

  pub units-remove : (q : Literal → Bool) (xs : List K) (i : ℕ) (x : K) → slice_get xs i ≡ Some x → count_by q (map plain xs) ≡ unit_if (q (plain x)) + count_by q (map plain (remove xs i))
  units-remove q xs i x e =
      let h = IsPermutation-remove xs i x (slice_get_within xs i x e) (sym (get_or_from_slice_get xs i x x e)) in
      sym (sum_by-IsPermutation (λ y. cond (q y) 1 0) (map plain xs) (map plain (x ∷ remove xs i)) (IsPermutation-map plain xs (x ∷ remove xs i) h)) ∙ sum_by-cons (λ y. cond (q y) 1 0) (plain x) (map plain (remove xs i))

  -- the last key goes
  pub shorter-listed : (xs : List K) (old : List Literal) (n : ℕ) → length xs ≡ n + 1 → map plain xs ≡ take (n + 1) old → map plain (remove xs n) ≡ take n old
  shorter-listed xs old n long e = ap (λ r. map plain r) (shorter xs n long) ∙ sym (take-map plain n xs) ∙ ap (take n) e ∙ take-less old n (n + 1) (omega arith)

  module _ (xs : List K) (kept i : ℕ) (x : K) (at : slice_get xs i ≡ Some x) where
    -- a key that stays goes to the end of those that do
    pub gathers : (stays : Bool) → kept ≤ i → stays ≡ true → take (kept + 1) (map plain (swap xs kept i)) ≡ followed_by stays (plain x) (take kept (map plain xs))
    gathers stays l e =
        take-map plain (kept + 1) (swap xs kept i) ∙ ap (λ r. map plain r) (front-swap xs kept i x l at) ∙ map-append plain (take kept xs) (x ∷ [])
        ∙ ap (λ (r : List Literal). r ++ plain x ∷ []) (sym (take-map plain kept xs))
        ∙ ap (λ t. followed_by t (plain x) (take kept (map plain xs))) (sym e)

    -- one that doesn't is left where it is
    pub leaves : (stays : Bool) → stays ≡ false → take kept (map plain xs) ≡ followed_by stays (plain x) (take kept (map plain xs))
    leaves stays e = ap (λ t. followed_by t (plain x) (take kept (map plain xs))) (sym e)

-- one more of those that stay
module _ (p : Literal → Bool) (end : ℕ) (ys : List Literal) (i : ℕ) (a : Literal) (at : slice_get ys i ≡ Some a) where
  more-of : take (i + 1) ys ≡ take i ys ++ a ∷ []
  more-of = front-more ys i a at

  long : length (take i ys) ≡ i
  long = length-take-le i ys (omega (arith, slice_get_within ys i a at))

  pub staying-next : followed_by (leb end i || p a) a (staying p end (take i ys)) ≡ staying p end (take (i + 1) ys)
  staying-next = on_side (leb end i)
      (λ f. ap (λ t. followed_by (t || p a) a (staying p end (take i ys))) f ∙ sym (staying-kept p end (take i ys) a (inl (omega (arith, leb-true end i f, long)))) ∙ ap (staying p end) (sym more-of))
      (λ f. on_side (p a)
      (λ e. ap (λ t. followed_by (t || p a) a (staying p end (take i ys))) f ∙ ap (λ t. followed_by t a (staying p end (take i ys))) e
      ∙ sym (staying-kept p end (take i ys) a (inr (omega (arith, leb-false end i f, long), e))) ∙ ap (staying p end) (sym more-of))
      (λ e. ap (λ t. followed_by (t || p a) a (staying p end (take i ys))) f ∙ ap (λ t. followed_by t a (staying p end (take i ys))) e
      ∙ sym (staying-gone p end (take i ys) a (omega (arith, leb-false end i f, long)) e) ∙ ap (staying p end) (sym more-of)))

pub staying-none : (p : Literal → Bool) (end : ℕ) → staying p end [] ≡ []
staying-none p end = whole p end [] (omega arith)
