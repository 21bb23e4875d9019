-- Lists that are read from an index on, round their end.
use Rattle.std.proofs.Common.{◌≡◌, ℕ, zero, suc, ◌+◌, ◌-◌, ◌<◌, ◌≤◌, ◌⊎◌, inl, inr, List, [], ◌∷◌, ◌++◌, length, map, set, get_or, take, drop, replicate, Option, Some, None, IfNone, IfSome, refl, sym, ap, ◌∙◌, arith, length-append, length-take, length-drop, append_assoc, append-nil}
use Rattle.std.proofs.lemmas.List.{get_or_append_left, get_or-append_right, get_or-drop, get_or-take, drop-set-add, take-set-le, drop-set-lt, set-append_left, set-append_right, drop-append-le, take-append-le, drop-drop, take-take, take-append-drop, drop-replicate, take-replicate, replicate-append-replicate, drop-map, take-map, map-append, drop_all, take_all}
use Rattle.std.proofs.Math.Seq.{drop-append-add, take-append-add, take-add}
use Rattle.std.proofs.lemmas.List.Elements.{All-append, All-take, All-drop}
use Rattle.cow_row.specs.RowView.{RowView, IsSound}
use Rattle.cow_deque.specs.Rings.{turned, Wraps}

module _ {Y : Type 0} where
  pub length-turned : (k : ℕ) (xs : List Y) → length (turned k xs) ≡ length xs
  length-turned k xs = omega (arith, length-append (drop k xs) (take k xs), length-drop k xs, length-take k xs)

  take-set-in : (xs : List Y) (n k : ℕ) (y : Y) → take n (set xs k y) ≡ set (take n xs) k y
  take-set-in xs zero k y = refl
  take-set-in [] (suc n) k y = refl
  take-set-in (x ∷ xs) (suc n) zero y = refl
  take-set-in (x ∷ xs) (suc n) (suc k) y = ap (λ l. x ∷ l) (take-set-in xs n k y)

  -- what stands at an index
  pub turned-at : (xs : List Y) (k i p : ℕ) (d : Y) → k ≤ length xs → i < length xs → Wraps k i (length xs) p → get_or (turned k xs) i d ≡ get_or xs p d
  turned-at xs k i p d h l w = elim w.1 [
    | inl e ↦ get_or_append_left (drop k xs) (take k xs) d i (omega (arith, length-drop k xs, w.0, e)) ∙ get_or-drop k xs i d ∙ ap (λ (j : ℕ). get_or xs j d) (sym e)
    | inr e ↦
        let j : i - (length xs - k) ≡ p = omega (arith, h, e) in
        get_or-append_right (drop k xs) (take k xs) (length xs - k) i d (length-drop k xs) (omega (arith, h, e)) ∙ rw j (get_or-take k xs p d (omega (arith, e, l)))
  ]

  -- a write to an index
  pub turned-set : (xs : List Y) (k i p : ℕ) (y : Y) → k ≤ length xs → i < length xs → Wraps k i (length xs) p → turned k (set xs p y) ≡ set (turned k xs) i y
  turned-set xs k i p y h l w = elim w.1 [
    | inl e ↦
        let here : drop k (set xs p y) ≡ set (drop k xs) i y = rw e (drop-set-add k xs i y) in
        let rest : take k (set xs p y) ≡ take k xs = take-set-le k xs p y (omega (arith, e)) in
        rw (here, rest) (sym (set-append_left (drop k xs) (take k xs) i y (omega (arith, length-drop k xs, w.0, e))))
    | inr e ↦
        let rest : drop k (set xs p y) ≡ drop k xs = drop-set-lt k xs p y (omega (arith, e, l)) in
        let j : i - (length xs - k) ≡ p = omega (arith, h, e) in
        rw (rest, take-set-in xs k p y) (sym (set-append_right (drop k xs) (take k xs) (length xs - k) i y (length-drop k xs) (omega (arith, h, e)) ∙ rw j refl))
  ]

  -- turned twice
  pub turned-turned : (xs : List Y) (k i q : ℕ) → k ≤ length xs → i ≤ length xs → q ≤ length xs → (q ≡ k + i) ⊎ (q + length xs ≡ k + i) → turned q xs ≡ turned i (turned k xs)
  turned-turned xs k i q h l r (inl e) =
      let within : i ≤ length (drop k xs) = omega (arith, length-drop k xs, e, r) in
      let back : drop i (turned k xs) ≡ drop q xs ++ take k xs = drop-append-le i (drop k xs) (take k xs) within ∙ ap (λ (t : List Y). t ++ take k xs) (drop-drop i k xs ∙ ap (λ (j : ℕ). drop j xs) (sym e)) in
      let front : take k xs ++ take i (turned k xs) ≡ take q xs = ap (λ (t : List Y). take k xs ++ t) (take-append-le i (drop k xs) (take k xs) within) ∙ sym (take-add k i xs) ∙ ap (λ (j : ℕ). take j xs) (sym e) in
      sym (ap (λ (t : List Y). t ++ take i (turned k xs)) back ∙ append_assoc (drop q xs) (take k xs) (take i (turned k xs)) ∙ ap (λ (t : List Y). drop q xs ++ t) front)
  turned-turned xs k i q h l r (inr e) =
      let us = drop k xs in let vs = take k xs in
      let sum : i ≡ length us + q = omega (arith, length-drop k xs, e, h) in
      let back : drop i (turned k xs) ≡ drop q vs = rw sum (drop-append-add us vs q) in
      let front : take i (turned k xs) ≡ us ++ take q xs = rw sum (take-append-add us vs q ∙ ap (λ (t : List Y). us ++ t) (take-take q k xs (omega (arith, e, l)))) in
      let whole : drop q vs ++ us ≡ drop q xs = sym (drop-append-le q vs us (omega (arith, length-take k xs, e, h, l))) ∙ ap (drop q) (take-append-drop k xs) in
      sym (ap (λ (t : List Y). t ++ take i (turned k xs)) back ∙ ap (λ (t : List Y). drop q vs ++ t) front ∙ sym (append_assoc (drop q vs) us (take q xs)) ∙ ap (λ (t : List Y). t ++ take q xs) whole)

  pub turned-none : (xs : List Y) → turned 0 xs ≡ xs
  turned-none xs = append-nil xs

  -- turned back
  pub turned-back : (xs : List Y) (k : ℕ) → k ≤ length xs → turned (length xs - k) (turned k xs) ≡ xs
  turned-back xs k h = sym (turned-turned xs k (length xs - k) 0 h (omega arith) (omega arith) (inr (omega (arith, h)))) ∙ turned-none xs

  pub turned-same : (n k : ℕ) (y : Y) → k ≤ n → turned k (replicate n y) ≡ replicate n y
  turned-same n k y h = rw (drop-replicate k n y, take-replicate k n y h, replicate-append-replicate) (ap (λ (j : ℕ). replicate j y) (omega (arith, h)))

  -- one more is turned
  pub turned-one : (y : Y) (ys : List Y) → turned 1 (y ∷ ys) ≡ ys ++ y ∷ []
  turned-one y ys = refl

  pub turned-all : (xs : List Y) (k : ℕ) → length xs ≤ k → turned k xs ≡ xs
  turned-all xs k h = rw (drop_all k xs h, take_all k xs h) refl

pub map-turned : {A B : Type 0} (f : A → B) (xs : List A) (k : ℕ) → map f (turned k xs) ≡ turned k (map f xs)
map-turned f xs k = rw (map-append, drop-map, take-map) refl

-- a row stays sound where its items are turned
pub IsSound-turned : {T : Type 0} (P : T → Type 0) (r : RowView T) (k : ℕ) → IsSound P r → IsSound P (record r { items = turned k r.items })
IsSound-turned P r k s = record {
  settled = All-append P (drop k r.items) (take k r.items) (All-drop P k r.items s.settled) (All-take P k r.items s.settled);
  fits = omega (arith, length-turned k r.items, s.fits);
  small = omega (arith, length-turned k r.items, s.small);
}

-- and where its first item has gone, if it had one
pub IsSound-rest : {T : Type 0} (P : T → Type 0) (r s : RowView T) (o : Option T) → IfNone o (s ≡ r) → IfSome o (λ x. r.items ≡ x ∷ s.items) → s.capacity ≡ r.capacity → IsSound P r → IsSound P s × (length s.items ≤ length r.items)
IsSound-rest P r s None n e c i = (rw n i, rw n (omega arith))
IsSound-rest P r s (Some x) n e c i = (
  record {
    settled = All-drop P 1 (x ∷ s.items) (rw e at i.settled);
    fits = omega (arith, ap length e, c, i.fits);
    small = omega (arith, ap length e, i.small);
  },
  omega (arith, ap length e),
)
