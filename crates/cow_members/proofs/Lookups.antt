-- The hashes of keys, when keys come and go.
use Rattle.std.proofs.Common.{◌≡◌, ◌≢◌, ℕ, zero, suc, ◌-◌, ◌<◌, cond, eqb, Bool, true, false, List, [], ◌∷◌, ◌++◌, length, map, get_or, set, take, slice_get, Some, None, refl, sym, ap, ◌∙◌, arith, inl, inr, IsPermutation}
use Rattle.std.specs.Prelude.{option_map}
use Rattle.std.specs.List.{swap_remove}
use Rattle.std.proofs.lemmas.List.{length_push, length-set}
use Rattle.std.proofs.lemmas.Bool.{cases_eq}
use Rattle.std.proofs.lemmas.Option.{slice_get_within, slice_get_past, get_or_from_slice_get}
use Rattle.std.proofs.lemmas.List.Sorted.{IsPermutation-swap, IsPermutation-trans, IsPermutation-to_front}
use native.Mathlib.Decide.{dec_lt}
use borrow.Author.Tests.{eqb-true, eq-eqb}
use Rattle.cow_table.specs.Pairs.{Pair, hash_at, Gains, Loses, Renames}

unequal_by : (a b : ℕ) (t : Bool) → eqb a b ≡ t → a ≢ b → t ≡ false
unequal_by a b true e d = absurd (d (eqb-true a b e))
unequal_by a b false e d = refl

pub unequal : (a b : ℕ) → a ≢ b → eqb a b ≡ false
unequal a b d = unequal_by a b (eqb a b) refl d

module _ {T : Type 0} where
  pub get-init : (xs : List T) (x : T) (q : ℕ) → q < length xs → slice_get (xs ++ x ∷ []) q ≡ slice_get xs q
  get-init [] x q l = absurd (omega arith)
  get-init (y ∷ xs) x zero l = refl
  get-init (y ∷ xs) x (suc q) l = get-init xs x q (omega arith)

  pub get-last : (xs : List T) (x : T) → slice_get (xs ++ x ∷ []) (length xs) ≡ Some x
  get-last [] x = refl
  get-last (y ∷ xs) x = get-last xs x

  pub get-same : (xs : List T) (i : ℕ) (x : T) → i < length xs → slice_get (set xs i x) i ≡ Some x
  get-same [] i x l = absurd (omega arith)
  get-same (y ∷ xs) zero x l = refl
  get-same (y ∷ xs) (suc i) x l = get-same xs i x (omega arith)

  pub get-other : (xs : List T) (i q : ℕ) (x : T) → q ≢ i → slice_get (set xs i x) q ≡ slice_get xs q
  get-other [] i q x d = refl
  get-other (y ∷ xs) zero zero x d = absurd (d refl)
  get-other (y ∷ xs) zero (suc q) x d = refl
  get-other (y ∷ xs) (suc i) zero x d = refl
  get-other (y ∷ xs) (suc i) (suc q) x d = get-other xs i q x (λ e. d (ap suc e))

  -- an item past the one that was pushed is as before
  get-pushed : (xs : List T) (x : T) (q : ℕ) → length xs ≢ q → slice_get xs q ≡ slice_get (xs ++ x ∷ []) q
  get-pushed xs x q d = elim (dec_lt q (length xs)) as (λ _. slice_get xs q ≡ slice_get (xs ++ x ∷ []) q) [
    | yes l ↦ sym (get-init xs x q l)
    | no l ↦ slice_get_past xs q (omega arith) ∙ sym (slice_get_past (xs ++ x ∷ []) q (omega (arith, length_push xs x)))
  ]

  -- one more key stands last
  pub looks-pushed : (hash : T → ℕ) (ps after : List Pair) (xs : List T) (x : T) (h : ℕ) → h ≡ hash x → ((q : ℕ) → hash_at ps q ≡ option_map hash (slice_get xs q))
      → Gains (record { hash = h; position = length xs }) ps after → (q : ℕ) → hash_at after q ≡ option_map hash (slice_get (xs ++ x ∷ []) q)
  looks-pushed hash ps after xs x h e looks gains q = gains.lookup q ∙ elim (cases_eq (length xs) q) as (λ _. cond (eqb (length xs) q) (Some h) (hash_at ps q) ≡ option_map hash (slice_get (xs ++ x ∷ []) q)) [
    | inl w ↦ ap (λ b. cond b (Some h) (hash_at ps q)) (eq-eqb (length xs) q w) ∙ ap (λ (y : ℕ). Some y) e ∙ sym (ap (λ o. option_map hash o) (ap (λ k. slice_get (xs ++ x ∷ []) k) (sym w) ∙ get-last xs x))
    | inr w ↦ ap (λ b. cond b (Some h) (hash_at ps q)) (unequal (length xs) q w) ∙ looks q ∙ ap (λ o. option_map hash o) (get-pushed xs x q w)
  ]

  -- what `swap_remove` leaves, where the last item goes and where another does
  take-init : (xs : List T) (x : T) → take (length xs) (xs ++ x ∷ []) ≡ xs
  take-init [] x = refl
  take-init (y ∷ xs) x = ap (λ l. y ∷ l) (take-init xs x)

  set-past : (xs : List T) (x y : T) → set (xs ++ x ∷ []) (length xs) y ≡ xs ++ y ∷ []
  set-past [] x y = refl
  set-past (z ∷ xs) x y = ap (λ l. z ∷ l) (set-past xs x y)

  set-init : (xs : List T) (x y : T) (i : ℕ) → i < length xs → set (xs ++ x ∷ []) i y ≡ set xs i y ++ x ∷ []
  set-init [] x y i l = absurd (omega arith)
  set-init (z ∷ xs) x y zero l = refl
  set-init (z ∷ xs) x y (suc i) l = ap (λ l. z ∷ l) (set-init xs x y i (omega arith))

  less-one : (xs : List T) (x : T) → length (xs ++ x ∷ []) - 1 ≡ length xs
  less-one xs x = omega (arith, length_push xs x)

  pub taken-last : (xs : List T) (x y : T) → swap_remove (xs ++ x ∷ []) (length xs) y ≡ xs
  taken-last xs x y = ap (λ k. take k (set (xs ++ x ∷ []) (length xs) (get_or (xs ++ x ∷ []) k y))) (less-one xs x) ∙ ap (take (length xs)) (set-past xs x (get_or (xs ++ x ∷ []) (length xs) y)) ∙ take-init xs (get_or (xs ++ x ∷ []) (length xs) y)

  pub taken-other : (xs : List T) (x y : T) (i : ℕ) → i < length xs → swap_remove (xs ++ x ∷ []) i y ≡ set xs i x
  taken-other xs x y i l =
      ap (λ k. take k (set (xs ++ x ∷ []) i (get_or (xs ++ x ∷ []) k y))) (less-one xs x)
      ∙ ap (λ z. take (length xs) (set (xs ++ x ∷ []) i z)) (get_or_from_slice_get (xs ++ x ∷ []) (length xs) x y (get-last xs x))
      ∙ ap (take (length xs)) (set-init xs x x i l) ∙ ap (λ k. take k (set xs i x ++ x ∷ [])) (sym (length-set xs i x)) ∙ take-init (set xs i x) x

  -- the last item in the place of one that is taken out
  pub others-last : (xs : List T) (x : T) → IsPermutation (xs ++ x ∷ []) (x ∷ xs)
  others-last xs x = IsPermutation-to_front xs x

  pub others-swap : (xs : List T) (x y : T) (i : ℕ) → slice_get xs i ≡ Some y → IsPermutation (xs ++ x ∷ []) (y ∷ set xs i x)
  others-swap xs x y i e = IsPermutation-trans (xs ++ x ∷ []) (x ∷ xs) (y ∷ set xs i x) (IsPermutation-to_front xs x)
      (IsPermutation-swap (x ∷ xs) (y ∷ set xs i x) 0 (suc i) (omega arith) (omega (arith, slice_get_within xs i y e)) (rw (get_or_from_slice_get xs i y x e) refl))

  pub kept-value : (xs : List T) (x y : T) (i : ℕ) → i ≢ length xs → i < length (xs ++ x ∷ []) → slice_get xs i ≡ Some y → slice_get (xs ++ x ∷ []) i ≡ Some y
  kept-value xs x y i d l e = get-init xs x i (slice_get_within xs i y e) ∙ e

  module _ (hash : T → ℕ) (ps : List Pair) (init : List T) (last : T) (i : ℕ) (looks : (q : ℕ) → hash_at ps q ≡ option_map hash (slice_get (init ++ last ∷ []) q)) where
    at_last : hash_at ps (length init) ≡ Some (hash last)
    at_last = looks (length init) ∙ ap (λ o. option_map hash o) (get-last init last)

    at_init : (q : ℕ) → q < length init → hash_at ps q ≡ option_map hash (slice_get init q)
    at_init q l = looks q ∙ ap (λ o. option_map hash o) (get-init init last q l)

    at_past : (q : ℕ) → length init < q → hash_at ps q ≡ None
    at_past q l = looks q ∙ ap (λ o. option_map hash o) (slice_get_past (init ++ last ∷ []) q (omega (arith, length_push init last)))

    module _ (after : List Pair) (gone : Loses i ps after) where
      pub looks-last : i ≡ length init → (q : ℕ) → hash_at after q ≡ option_map hash (slice_get init q)
      looks-last e q = gone.lookup q ∙ elim (cases_eq i q) as (λ _. cond (eqb i q) None (hash_at ps q) ≡ option_map hash (slice_get init q)) [
        | inl w ↦ ap (λ t. cond t None (hash_at ps q)) (eq-eqb i q w) ∙ sym (ap (λ o. option_map hash o) (slice_get_past init q (omega (arith, e, w))))
        | inr w ↦ ap (λ t. cond t None (hash_at ps q)) (unequal i q w) ∙ elim (dec_lt q (length init)) as (λ _. hash_at ps q ≡ option_map hash (slice_get init q)) [
          | yes l ↦ at_init q l
          | no l ↦ at_past q (omega arith) ∙ sym (ap (λ o. option_map hash o) (slice_get_past init q (omega arith)))
        ]
      ]

      pub last-there : i ≢ length init → hash_at after (length init) ≡ Some (hash last)
      last-there d = gone.lookup (length init) ∙ ap (λ t. cond t None (hash_at ps (length init))) (unequal i (length init) d) ∙ at_last

      pub looks-moved : (named : List Pair) → i < length init → Renames (hash last) (length init) i after named → (q : ℕ) → hash_at named q ≡ option_map hash (slice_get (set init i last) q)
      looks-moved named l r q = r.lookup q ∙ elim (cases_eq i q) as (λ _. cond (eqb i q) (Some (hash last)) (cond (eqb (length init) q) None (hash_at after q)) ≡ option_map hash (slice_get (set init i last) q)) [
        | inl w ↦ ap (λ t. cond t (Some (hash last)) (cond (eqb (length init) q) None (hash_at after q))) (eq-eqb i q w) ∙ sym (ap (λ o. option_map hash o) (ap (λ k. slice_get (set init i last) k) (sym w) ∙ get-same init i last l))
        | inr w ↦ ap (λ t. cond t (Some (hash last)) (cond (eqb (length init) q) None (hash_at after q))) (unequal i q w) ∙ elim (cases_eq (length init) q) as (λ _. cond (eqb (length init) q) None (hash_at after q) ≡ option_map hash (slice_get (set init i last) q)) [
          | inl v ↦ ap (λ t. cond t None (hash_at after q)) (eq-eqb (length init) q v) ∙ sym (ap (λ o. option_map hash o) (slice_get_past (set init i last) q (omega (arith, length-set init i last, v))))
          | inr v ↦ ap (λ t. cond t None (hash_at after q)) (unequal (length init) q v) ∙ gone.lookup q ∙ ap (λ t. cond t None (hash_at ps q)) (unequal i q w)
              ∙ elim (dec_lt q (length init)) as (λ _. hash_at ps q ≡ option_map hash (slice_get (set init i last) q)) [
                | yes m ↦ at_init q m ∙ sym (ap (λ o. option_map hash o) (get-other init i q last (λ z. w (sym z))))
                | no m ↦ at_past q (omega arith) ∙ sym (ap (λ o. option_map hash o) (slice_get_past (set init i last) q (omega (arith, length-set init i last))))
              ]
        ]
      ]

through : {T A : Type 0} (plain : T → A) (hash : A → ℕ) (xs : List T) (q : ℕ) → option_map hash (slice_get (map plain xs) q) ≡ option_map (λ k. hash (plain k)) (slice_get xs q)
through plain hash [] q = refl
through plain hash (x ∷ xs) zero = refl
through plain hash (x ∷ xs) (suc q) = through plain hash xs q

-- equal plain keys have equal hashes, place by place
pub looks-alike : {T A : Type 0} (plain : T → A) (hash : A → ℕ) (ps : List Pair) (xs ys : List T) → map plain ys ≡ map plain xs
    → ((q : ℕ) → hash_at ps q ≡ option_map (λ k. hash (plain k)) (slice_get xs q)) → (q : ℕ) → hash_at ps q ≡ option_map (λ k. hash (plain k)) (slice_get ys q)
looks-alike plain hash ps xs ys e looks q = looks q ∙ sym (through plain hash xs q) ∙ ap (λ l. option_map hash (slice_get l q)) (sym e) ∙ through plain hash ys q
