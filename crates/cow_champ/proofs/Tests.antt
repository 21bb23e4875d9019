-- Tests of every pair.
use Rattle.std.proofs.Common.{◌≡◌, ℕ, zero, suc, ◌+◌, ◌<◌, List, [], ◌∷◌, ◌++◌, map, take, length, get_or, Bool, true, false, cond, ◌&&◌, inl, inr, refl, sym, ap, ◌∙◌, arith, subst}
use Rattle.std.specs.List.{list_all}
use Rattle.std.proofs.lemmas.Bool.{cases_eq}
use Rattle.std.proofs.lemmas.List.{take_more, map-append}
use Rattle.std.proofs.lemmas.List.Folds.{list_all-append}
use Rattle.cow_model.proofs.CanonCounts.{count-append}
use Rattle.cow_model.specs.Canon.{count_where, spread}
use Rattle.cow_model.specs.declared.value.Pair.{Pair}

and_false : (a : Bool) → (a && false) ≡ false
and_false a = elim a as (λ x. (x && false) ≡ false) [ true ↦ refl | false ↦ refl ]

-- a test that one fails isn't passed by all
pub all_but : {X : Type 0} (t : Pair → Bool) (f : X → Pair) (xs : List X) (i : ℕ) (x : X) → i < length xs → x ≡ get_or xs i x → t (f x) ≡ false → list_all t (map f xs) ≡ false
all_but t f [] i x l r h = absurd (omega arith)
all_but t f (y ∷ ys) zero x l r h = let e : t (f y) ≡ false = subst (λ z. t (f z) ≡ false) r h in rw e refl
all_but t f (y ∷ ys) (suc i) x l r h = ap (λ b. t (f y) && b) (all_but t f ys i x (omega arith) r h) ∙ and_false (t (f y))

pub spread_all : (t : Pair → Bool) (f : ℕ → List Pair) (d : ℕ) → list_all t (spread d f) ≡ true → list_all t (f d) ≡ true → list_all t (spread (suc d) f) ≡ true
unfolding spread
spread_all t f d h k = list_all-append t (spread d f) (f d) ∙ ap (λ b. b && list_all t (f d)) h ∙ k

pub spread_but : (t : Pair → Bool) (f : ℕ → List Pair) (d n : ℕ) → d < n → list_all t (f d) ≡ false → list_all t (spread n f) ≡ false
unfolding spread
spread_but t f d zero l h = absurd (omega arith)
spread_but t f d (suc n) l h =
    elim (cases_eq d n) [
      | inl e ↦ list_all-append t (spread n f) (f n) ∙ ap (λ b. list_all t (spread n f) && b) (subst (λ m. list_all t (f m) ≡ false) e h) ∙ and_false (list_all t (spread n f))
      | inr ne ↦ list_all-append t (spread n f) (f n) ∙ ap (λ b. b && list_all t (f n)) (spread_but t f d n (omega (arith, l, ne)) h)
    ]

-- ---- how many pass
pub spread_count : (t : Pair → Bool) (f : ℕ → List Pair) (d : ℕ) → count_where t (spread (suc d) f) ≡ count_where t (spread d f) + count_where t (f d)
unfolding spread
spread_count t f d = count-append t (spread d f) (f d)

pub count_more : {X : Type 0} (t : Pair → Bool) (f : X → Pair) (xs : List X) (i : ℕ) (x : X) → i < length xs → x ≡ get_or xs i x → count_where t (map f (take (i + 1) xs)) ≡ count_where t (map f (take i xs)) + cond (t (f x)) 1 0
count_more t f xs i x h r =
    let a : take (i + 1) xs ≡ take i xs ++ x ∷ [] = take_more xs i x h ∙ ap (λ z. take i xs ++ z ∷ []) (sym r) in
    ap (λ ys. count_where t (map f ys)) a ∙ ap (count_where t) (map-append f (take i xs) (x ∷ [])) ∙ count-append t (map f (take i xs)) (f x ∷ []) ∙ omega arith
