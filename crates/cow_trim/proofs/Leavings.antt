-- How many pairs are left when a key goes, and which one, where it is one.
use Rattle.std.proofs.Common.{◌≡◌, ◌≢◌, ℕ, ◌+◌, ◌≤◌, Bool, true, false, cond, ◌&&◌, eqb, List, [], ◌∷◌, length, Option, Some, None, inl, inr, refl, sym, ap, ◌∙◌, arith, subst, eqb-true, eq-eqb, ne_eqb}
use Rattle.std.specs.Prelude.{Result, Ok, Err, OnErr, is_some, IfSome, IfNone}
use Rattle.std.proofs.lemmas.Bool.{cases_Bool, eqb-false, true≢false}
use Rattle.cow_model.specs.declared.plain.Literal.{Literal}
use Rattle.cow_model.specs.declared.value.Pair.{Pair}
use Rattle.cow_model.specs.Canon.{count_where, is_one, has_key, IsDistinct, Tree, pairs, canon, IsCanonical, without, get}
use Rattle.cow_model.proofs.CanonOrder.{eq_means, eq_refl}
use Rattle.cow_model.proofs.CanonSlots.{length-without, count-canon, length-canon, IsCanonical-canon}
use Rattle.cow_trim.specs.Removal.{gives_up}
use Rattle.cow_trim.proofs.Removals.{without_none, IsDistinct-without}

pub always_err : {T E : Type 0} {P : Type 0} (r : Result T E) → P → OnErr r P
always_err {P = P} r p = elim r as (λ x. OnErr x P) [ Ok v ↦ tt | Err e ↦ p ]

-- a key that has a value stands there
pub some_count : (k : Literal) (ps : List Pair) → is_some (get k ps) ≡ true → 1 ≤ count_where (has_key k) ps
unfolding get
some_count k [] h = absurd (cc)
some_count k (p ∷ ps) h =
    elim (cases_Bool (has_key k p)) [
      | inl e ↦ rw e (omega arith)
      | inr e ↦ let m : is_some (get k ps) ≡ true = rw e at h in let ih = some_count k ps m in rw e (omega (arith, ih))
    ]

pub none_count : (k : Literal) (ps : List Pair) → is_some (get k ps) ≡ false → count_where (has_key k) ps ≡ 0
unfolding get
none_count k [] h = refl
none_count k (p ∷ ps) h =
    elim (cases_Bool (has_key k p)) [
      | inl e ↦ let m : true ≡ false = rw e at h in absurd (cc)
      | inr e ↦ let m : is_some (get k ps) ≡ false = rw e at h in let ih = none_count k ps m in rw e (omega (arith, ih))
    ]

-- one pair goes with a key
pub length-gone : (k : Literal) (ps : List Pair) → IsDistinct ps → is_some (get k ps) ≡ true → length (without k ps) + 1 ≡ length ps
length-gone k ps d h = let a = some_count k ps h in omega (arith, a, d k, length-without k ps)

-- lists of one pair that pass the same tests
pub same_pair : (p q : Pair) → ((t : Pair → Bool) → count_where t (p ∷ []) ≡ count_where t (q ∷ [])) → p ≡ q
same_pair p q h =
    let t : Pair → Bool = λ x. is_one x.key p.key && is_one x.value p.value in
    let a : t p ≡ true = rw (eq_refl p.key, eq_refl p.value) refl in
    let b : 1 + 0 ≡ cond (t q) 1 0 + 0 = rw a at (h t) in
    elim (cases_Bool (is_one q.key p.key)) [
      | inl e ↦
          (elim (cases_Bool (is_one q.value p.value)) [
            | inl f ↦ (let x = eq_means q.key p.key e in let y = eq_means q.value p.value f in sym (ap (λ k. record { key = k; value = q.value }) x ∙ ap (λ v. record { key = p.key; value = v }) y))
            | inr f ↦ absurd (let c : 1 + 0 ≡ 0 + 0 = rw (e, f) at b in omega (arith, c))
          ])
      | inr e ↦ absurd (let c : 1 + 0 ≡ 0 + 0 = rw e at b in omega (arith, c))
    ]

pub same_single : (qs : List Pair) (p : Pair) → length qs ≡ 1 → ((t : Pair → Bool) → count_where t (p ∷ []) ≡ count_where t qs) → qs ≡ p ∷ []
same_single [] p l h = absurd (omega (arith, l))
same_single (q ∷ []) p l h = ap (λ x. x ∷ []) (sym (same_pair p q h))
same_single (q ∷ (r ∷ qs)) p l h = absurd (omega (arith, l))

-- a node t of what is left of s
module _ (hash_of : Literal → ℕ) (level : ℕ) (k : Literal) (s t : Tree) (c : IsCanonical hash_of s level) (e : t ≡ canon hash_of (without k (pairs s)) level) where
  pub left_canonical : IsCanonical hash_of t level
  left_canonical = subst (λ x. IsCanonical hash_of x level) (sym e) (IsCanonical-canon hash_of (without k (pairs s)) level (IsDistinct-without k (pairs s) c.distinct))

  left_length : length (pairs t) ≡ length (without k (pairs s))
  left_length = ap (λ x. length (pairs x)) e ∙ length-canon hash_of (without k (pairs s)) level

  pub left_single : (p : Pair) → pairs t ≡ p ∷ [] → without k (pairs s) ≡ p ∷ []
  left_single p h = same_single (without k (pairs s)) p (sym left_length ∙ ap length h) (λ t'. ap (count_where t') (sym h) ∙ ap (λ x. count_where t' (pairs x)) e ∙ count-canon hash_of t' (without k (pairs s)) level)

  pub left_pair : {X : Type 0} (f : X → Pair) (o : Option X) → IfSome o (λ x. pairs t ≡ f x ∷ []) → IfSome o (λ x. without k (pairs s) ≡ f x ∷ [])
  left_pair f o h =
      (elim o as (λ o. IfSome o (λ x. pairs t ≡ f x ∷ []) → IfSome o (λ x. without k (pairs s) ≡ f x ∷ [])) [
        | Some x ↦ λ h. left_single (f x) h
        | None ↦ λ h. tt
      ]) h

  pub left_one : {X : Type 0} (f : X → Pair) (o : Option X) → eqb level 0 ≡ false → is_some (get k (pairs s)) ≡ true → IfSome o (λ x. pairs t ≡ f x ∷ []) → IfNone o (length (pairs t) ≢ 1) → is_some o ≡ gives_up level k s
  left_one f o z there =
      let n = length-gone k (pairs s) c.distinct there in
      let m = left_length in
      rw (there, z) ((elim o as (λ o. IfSome o (λ x. pairs t ≡ f x ∷ []) → IfNone o (length (pairs t) ≢ 1) → is_some o ≡ eqb (length (pairs s)) 2) [
        | Some x ↦ λ h g. let l : length (pairs t) ≡ 1 = ap length h in sym (eq-eqb (length (pairs s)) 2 (omega (arith, l, m, n)))
        | None ↦ λ h g. sym (ne_eqb (length (pairs s)) 2 (λ y. g (omega (arith, y, m, n))))
      ]))

-- a key that isn't there leaves a node as it is
module _ (hash_of : Literal → ℕ) (level : ℕ) (k : Literal) (s : Tree) (c : IsCanonical hash_of s level) (h : is_some (get k (pairs s)) ≡ false) where
  pub left_same : s ≡ canon hash_of (without k (pairs s)) level
  left_same = c.shape ∙ ap (λ ps. canon hash_of ps level) (sym (without_none k (pairs s) (none_count k (pairs s) h)))

  pub left_none : false ≡ gives_up level k s
  left_none = rw h refl

-- an entry under whose digit the key stands is the key's own
pub own_entry : (k : Literal) (q : Pair) (o : Option Literal) → o ≡ cond (has_key k q) (Some q.value) None → is_some o ≡ true → (is_one q.key k ≡ true) × (Some q.value ≡ o)
own_entry k q o e h =
    elim (cases_Bool (has_key k q)) [
      | inl a ↦ (a, sym (e ∙ ap (λ b. cond b (Some q.value) None) a))
      | inr a ↦ absurd (true≢false (sym h ∙ ap is_some (e ∙ ap (λ b. cond b (Some q.value) None) a)))
    ]

-- how many are left in a child, by whether it gives its pair up
module _ (level : ℕ) (k : Literal) (s : Tree) (there : is_some (get k (pairs s)) ≡ true) (below : eqb level 0 ≡ false) where
  gives : gives_up level k s ≡ eqb (length (pairs s)) 2
  gives = rw (there, below) refl

  pub gives_two : true ≡ gives_up level k s → length (pairs s) ≡ 2
  gives_two h = eqb-true (length (pairs s)) 2 (sym (h ∙ gives))

  pub keeps_two : false ≡ gives_up level k s → IsDistinct (pairs s) → 2 ≤ length (pairs s) → 2 ≤ length (without k (pairs s))
  keeps_two h d l = let n = eqb-false (length (pairs s)) 2 (sym (h ∙ gives)) in let m = length-gone k (pairs s) d there in omega (arith, n, m, l)

-- a root gives no pair up
pub root_keeps : (level : ℕ) (k : Literal) (s : Tree) → level ≡ 0 → gives_up level k s ≡ false
root_keeps level k s e =
    rw e (elim (cases_Bool (is_some (get k (pairs s)))) [ inl a ↦ rw a refl | inr a ↦ rw a refl ])
