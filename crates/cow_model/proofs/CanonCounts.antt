-- Counts of pairs that pass a test, and filters.
use Rattle.std.proofs.Common.{◌≡◌, ℕ, zero, suc, ◌+◌, ◌*◌, ◌<◌, ◌≤◌, Bool, true, false, cond, not, ◌&&◌, eqb, ltb, List, [], ◌∷◌, ◌++◌, length, inl, inr, refl, sym, ap, ◌∙◌, arith, rules, subst}
use Rattle.std.specs.List.{filter}
use Rattle.cow_model.specs.declared.plain.Literal.{Literal}
use Rattle.cow_model.specs.declared.value.Pair.{Pair}
use Rattle.cow_model.specs.Canon.{count_where}
use Rattle.std.proofs.lemmas.Bool.{cases_Bool}

pub count-append : (p : Pair → Bool) (xs ys : List Pair) → count_where p (xs ++ ys) ≡ count_where p xs + count_where p ys
count-append p [] ys = omega arith
count-append p (x ∷ xs) ys = omega (arith, count-append p xs ys)

-- a filter keeps what passes both tests
pub count-filter : (p q : Pair → Bool) (xs : List Pair) → count_where p (filter q xs) ≡ count_where (λ x. q x && p x) xs
count-filter p q [] = refl
count-filter p q (x ∷ xs) =
    let ih = count-filter p q xs in
    elim (q x) as (λ b. count_where p (cond b (x ∷ filter q xs) (filter q xs)) ≡ cond (b && p x) 1 0 + count_where (λ y. q y && p y) xs)
    [ true ↦ ap (λ n. cond (p x) 1 0 + n) ih | false ↦ omega (arith, ih) ]

pub count-all : (xs : List Pair) → count_where (λ _. true) xs ≡ length xs
count-all [] = refl
count-all (x ∷ xs) = omega (arith, count-all xs)

-- a filter that nothing passes is empty
pub filter_none : (p : Pair → Bool) (xs : List Pair) → count_where p xs ≡ 0 → filter p xs ≡ []
filter_none p [] h = refl
filter_none p (x ∷ xs) h =
    (elim (p x) as (λ b. cond b 1 0 + count_where p xs ≡ 0 → cond b (x ∷ filter p xs) (filter p xs) ≡ [])
    [ true ↦ λ k. absurd (omega arith) | false ↦ λ k. filter_none p xs (omega arith) ]) h

-- a filter that all pass changes nothing
pub filter_all : (p : Pair → Bool) (xs : List Pair) → count_where (λ x. not (p x)) xs ≡ 0 → filter p xs ≡ xs
filter_all p [] h = refl
filter_all p (x ∷ xs) h =
    (elim (p x) as (λ b. cond (not b) 1 0 + count_where (λ y. not (p y)) xs ≡ 0 → cond b (x ∷ filter p xs) (filter p xs) ≡ x ∷ xs)
    [ true ↦ λ k. ap (λ ys. x ∷ ys) (filter_all p xs (omega arith)) | false ↦ λ k. absurd (omega arith) ]) h

pub filter_yes : (p : Pair → Bool) (x : Pair) (xs : List Pair) → p x ≡ true → filter p (x ∷ xs) ≡ x ∷ filter p xs
filter_yes p x xs h = rw h refl

pub filter_no : (p : Pair → Bool) (x : Pair) (xs : List Pair) → p x ≡ false → filter p (x ∷ xs) ≡ filter p xs
filter_no p x xs h = rw h refl

pub filter-filter : (p q : Pair → Bool) (xs : List Pair) → filter p (filter q xs) ≡ filter q (filter p xs)
filter-filter p q [] = refl
filter-filter p q (x ∷ xs) =
    let ih = filter-filter p q xs in
    elim (cases_Bool (p x)) [
      | inl e ↦ (elim (cases_Bool (q x)) [ inl f ↦ simp (e, f, ih) | inr f ↦ simp (e, f, ih) ])
      | inr e ↦ (elim (cases_Bool (q x)) [ inl f ↦ simp (e, f, ih) | inr f ↦ simp (e, f, ih) ])
    ]

pub count-agree : (p q : Pair → Bool) → ((x : Pair) → p x ≡ q x) → (xs : List Pair) → count_where p xs ≡ count_where q xs
count-agree p q h [] = refl
count-agree p q h (x ∷ xs) = let ih = count-agree p q h xs in rw (h x) (ap (λ n. cond (q x) 1 0 + n) ih)

-- what holds of each pair
abbrev pub Each : (Pair → Type 0) → List Pair → Type 0
Each P [] = Unit {0}
Each P (x ∷ xs) = P x × Each P xs

pub Each-filter : (P : Pair → Type 0) (p : Pair → Bool) (xs : List Pair) → Each P xs → Each P (filter p xs)
Each-filter P p [] h = tt
Each-filter P p (x ∷ xs) h =
    elim (p x) as (λ b. Each P (cond b (x ∷ filter p xs) (filter p xs)))
    [ true ↦ (h.0, Each-filter P p xs h.1) | false ↦ Each-filter P p xs h.1 ]

pub Each-map : (P Q : Pair → Type 0) → ((x : Pair) → P x → Q x) → (xs : List Pair) → Each P xs → Each Q xs
Each-map P Q f [] h = tt
Each-map P Q f (x ∷ xs) h = (f x h.0, Each-map P Q f xs h.1)

pub count_never : (p : Pair → Bool) → ((x : Pair) → p x ≡ false) → (xs : List Pair) → count_where p xs ≡ 0
count_never p h [] = refl
count_never p h (x ∷ xs) = rw (h x) (omega (arith, count_never p h xs))

-- what holds under a test that none fails
pub Each_from_count : (t : Pair → Bool) (xs : List Pair) → count_where (λ x. not (t x)) xs ≡ 0 → Each (λ x. t x ≡ true) xs
Each_from_count t [] h = tt
Each_from_count t (x ∷ xs) h =
    elim (cases_Bool (t x)) [
      | inl e ↦ (e, Each_from_count t xs (omega (arith, h)))
      | inr e ↦ absurd (let k : 1 + count_where (λ y. not (t y)) xs ≡ 0 = rw e at h in omega (arith, k))
    ]

pub count_none-from : (p q : Pair → Bool) → ((x : Pair) → q x ≡ false → p x ≡ false) → (xs : List Pair) → count_where q xs ≡ 0 → count_where p xs ≡ 0
count_none-from p q f [] h = refl
count_none-from p q f (x ∷ xs) h =
    elim (cases_Bool (q x)) [
      | inl e ↦ absurd (let k : 1 + count_where q xs ≡ 0 = rw e at h in omega (arith, k))
      | inr e ↦ rw (f x e) (let k : 0 + count_where q xs ≡ 0 = rw e at h in omega (arith, count_none-from p q f xs (omega (arith, k))))
    ]
