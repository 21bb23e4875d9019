-- Sums over views, and numbers in lists.
use Rattle.std.proofs.Common.{◌≡◌, ℕ, zero, suc, ◌+◌, ◌<◌, ◌≤◌, ◌≢◌, List, [], ◌∷◌, ◌++◌, set, sym, refl, ap, subst, arith}
use mathlib.Core.Option.{some, some-injective, some-ne-none}
use lib.ListN.{get_elem?}
use Rattle.cow_crew.specs.Rule.{total, same, past, times, ends, last, last_of, EndsPast}

module _ {V : Type 0} (f : V → ℕ) where
  pub total_set : (l : List V) (i : ℕ) (v w : V) → get_elem? l i ≡ some v → total f (set l i w) + f v ≡ total f l + f w
  total_set [] i v w e = absurd (some-ne-none v (sym e))
  total_set (x ∷ xs) zero v w e = let h : f x ≡ f v = ap f (some-injective x v e) in omega (arith, h)
  total_set (x ∷ xs) (suc i) v w e = let h = total_set xs i v w e in omega (arith, h)

  pub total_snoc : (l : List V) (w : V) → total f (l ++ w ∷ []) ≡ total f l + f w
  total_snoc [] w = omega arith
  total_snoc (x ∷ xs) w = let h = total_snoc xs w in omega (arith, h)

  pub one_le : (l : List V) (i : ℕ) (v : V) → get_elem? l i ≡ some v → f v ≤ total f l
  one_le [] i v e = absurd (some-ne-none v (sym e))
  one_le (x ∷ xs) zero v e = let h : f x ≡ f v = ap f (some-injective x v e) in omega (arith, h)
  one_le (x ∷ xs) (suc i) v e = let h = one_le xs i v e in omega (arith, h)

  pub two_le : (l : List V) (i j : ℕ) (v w : V) → i ≢ j → get_elem? l i ≡ some v → get_elem? l j ≡ some w → f v + f w ≤ total f l
  two_le [] i j v w n e d = absurd (some-ne-none v (sym e))
  two_le (x ∷ xs) zero zero v w n e d = absurd (n refl)
  two_le (x ∷ xs) zero (suc j) v w n e d = let h : f x ≡ f v = ap f (some-injective x v e) in let k = one_le xs j w d in omega (arith, h, k)
  two_le (x ∷ xs) (suc i) zero v w n e d = let h : f x ≡ f w = ap f (some-injective x w d) in let k = one_le xs i v e in omega (arith, h, k)
  two_le (x ∷ xs) (suc i) (suc j) v w n e d = let k = two_le xs i j v w (λ p. n (ap suc p)) e d in omega (arith, k)

pub times-append : (x : ℕ) (xs ys : List ℕ) → times x (xs ++ ys) ≡ times x xs + times x ys
times-append x [] ys = omega arith
times-append x (z ∷ xs) ys = let h = times-append x xs ys in omega (arith, h)

pub ends-append : (n : ℕ) (xs ys : List ℕ) → ends n (xs ++ ys) ≡ ends n xs + ends n ys
ends-append n [] ys = omega arith
ends-append n (z ∷ xs) ys = let h = ends-append n xs ys in omega (arith, h)

last_of-append : (z : ℕ) (xs : List ℕ) (y : ℕ) (ys : List ℕ) → last_of z (xs ++ y ∷ ys) ≡ last_of y ys
last_of-append z [] y ys = refl
last_of-append z (x ∷ xs) y ys = last_of-append x xs y ys

pub last-append : (xs : List ℕ) (y : ℕ) (ys : List ℕ) → last (xs ++ y ∷ ys) ≡ last (y ∷ ys)
last-append [] y ys = refl
last-append (x ∷ xs) y ys = ap some (last_of-append x xs y ys)

last_of_times : (x : ℕ) (xs : List ℕ) → 1 ≤ same (last_of x xs) x + times (last_of x xs) xs
last_of_times x [] = omega arith
last_of_times x (y ∷ ys) = let h = last_of_times y ys in omega (arith, h)

pub last_times : (xs : List ℕ) (i : ℕ) → last xs ≡ some i → 1 ≤ times i xs
last_times [] i e = absurd (some-ne-none i (sym e))
last_times (x ∷ xs) i e = let P : ℕ → Type 0 = λ k. 1 ≤ times k (x ∷ xs) in let h : last_of x xs ≡ i = some-injective (last_of x xs) i e in subst P h (last_of_times x xs)

last_of_ends : (n x : ℕ) (xs : List ℕ) → n ≤ last_of x xs → 1 ≤ past n x + ends n xs
last_of_ends n x [] e = omega arith
last_of_ends n x (y ∷ ys) e = let h = last_of_ends n y ys e in omega (arith, h)

pub last_ends : (n : ℕ) (xs : List ℕ) → EndsPast n xs → 1 ≤ ends n xs
last_ends n [] (i, e, h) = absurd (some-ne-none i (sym e))
last_ends n (x ∷ xs) (i, e, h) = let P : ℕ → Type 0 = λ k. n ≤ k in last_of_ends n x xs (subst P (sym (some-injective (last_of x xs) i e)) h)

-- where f is at most g at each view and less at one, the sum is less
total_le : {V : Type 0} (f g : V → ℕ) (l : List V) → ((i : ℕ) (v : V) → get_elem? l i ≡ some v → f v ≤ g v) → total f l ≤ total g l
total_le f g [] h = omega arith
total_le f g (x ∷ xs) h = let a = h zero x refl in let b = total_le f g xs (λ i v e. h (suc i) v e) in omega (arith, a, b)

pub total_less : {V : Type 0} (f g : V → ℕ) (l : List V) → ((i : ℕ) (v : V) → get_elem? l i ≡ some v → f v ≤ g v) → (i : ℕ) (v : V) → get_elem? l i ≡ some v → f v < g v → total f l < total g l
total_less f g [] h i v e d = absurd (some-ne-none v (sym e))
total_less {V} f g (x ∷ xs) h zero v e d =
    let P : V → Type 0 = λ z. f z < g z in let a : f x < g x = subst P (sym (some-injective x v e)) d in let b = total_le f g xs (λ k u p. h (suc k) u p) in omega (arith, a, b)
total_less f g (x ∷ xs) h (suc i) v e d = let a = h zero x refl in let b = total_less f g xs (λ k u p. h (suc k) u p) i v e d in omega (arith, a, b)
