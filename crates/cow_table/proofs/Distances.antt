-- Steps round a ring of buckets.
use Rattle.std.specs.Prelude.{◌≡◌, ℕ, ◌+◌, ◌-◌, ◌%◌, ◌^◌, ◌<◌, ◌≤◌, Bool, true, false, cond, leb, ◌⊎◌}
use mathlib.Core.Path.{refl, sym, ap, ◌∙◌}
use mathlib.Core.Logic.{inl, inr}
use native.Mathlib.Nat.{mod-eq_of_lt, mod_self}
use native.Mathlib.Omega.{arith}
use native.Mathlib.Decide.{dec_lt}
use lib.Bits.{bit_and, and_mask}
use lib.Pow.{pow_mono}
use borrow.Author.Tests.{leb-true, leb-false}
use Rattle.cow_table.specs.Ring.{IsSize, IsNext, distance}

pub size_bounds : (n : ℕ) → IsSize n → (8 ≤ n) × (n ≤ 2 ^ 32)
size_bounds n s = let m : 2 ^ s.power ≤ 2 ^ 32 = pow_mono s.high in let z : 2 ^ 3 ≤ 2 ^ s.power = pow_mono {i = 3} {j = s.power} s.low in omega (arith, s.is)

pub home-mask : (n h : ℕ) → IsSize n → bit_and h (n - 1) ≡ h % n
home-mask n h s = ap (λ m. bit_and h (m - 1)) s.is ∙ and_mask h s.power ∙ ap (λ m. h % m) (sym s.is)

pub home-below : (n h : ℕ) → IsSize n → h % n < n
home-below n h s = omega (arith, size_bounds n s)

pub next-mask : (n a : ℕ) → IsSize n → a < n → IsNext n a (bit_and (a + 1) (n - 1))
next-mask n a s p =
    let e = home-mask n (a + 1) s in
    elim (dec_lt (a + 1) n) [
      | yes q ↦ let z = e ∙ mod-eq_of_lt q in inl (z, omega arith)
      | no q ↦ let w : a + 1 ≡ n = omega arith in inr (e ∙ ap (λ m. m % n) w ∙ mod_self n, w)
    ]

abbrev pub DistanceCases : ℕ → ℕ → ℕ → ℕ → Type 0
DistanceCases n a b d = ((a ≤ b) × (d + a ≡ b)) ⊎ ((b < a) × (d + a ≡ b + n))

distance_by_test : (n a b : ℕ) (t : Bool) → leb a b ≡ t → a < n → DistanceCases n a b (cond t (b - a) (b + n - a))
distance_by_test n a b true e p = let h = leb-true a b e in inl (omega arith)
distance_by_test n a b false e p = let h = leb-false a b e in inr (omega arith)

pub distance_cases : (n a b : ℕ) → a < n → DistanceCases n a b (distance n a b)
unfolding distance
distance_cases n a b p = distance_by_test n a b (leb a b) refl p

module _ (n a : ℕ) (in_a : a < n) where
  pub distance-below : (b : ℕ) → b < n → distance n a b < n
  distance-below b q = omega (arith, distance_cases n a b in_a)

  pub distance_self : distance n a a ≡ 0
  distance_self = omega (arith, distance_cases n a a in_a)

  pub distance_zero : (b : ℕ) → b < n → distance n a b ≡ 0 → b ≡ a
  distance_zero b q e = omega (arith, distance_cases n a b in_a)

  pub same_place : (b c : ℕ) → b < n → c < n → distance n a b ≡ distance n a c → b ≡ c
  same_place b c p q e = omega (arith, distance_cases n a b in_a, distance_cases n a c in_a)

  -- the next place is one step further, but for a itself
  pub distance_next : (b c : ℕ) → b < n → IsNext n b c → (c < n) × (((c ≡ a) × (distance n a b + 1 ≡ n)) ⊎ (distance n a c ≡ distance n a b + 1))
  distance_next b c p (inl s) = elim (dec_lt c a) [
    | yes q ↦ (s.1, inr (omega (arith, distance_cases n a b in_a, distance_cases n a c in_a)))
    | no q ↦ elim (dec_lt b a) [
      | yes r ↦ (s.1, inl (omega arith, omega (arith, distance_cases n a b in_a)))
      | no r ↦ (s.1, inr (omega (arith, distance_cases n a b in_a, distance_cases n a c in_a)))
    ]
  ]
  distance_next b c p (inr s) = elim (dec_lt 0 a) [
    | yes q ↦ (omega arith, inr (omega (arith, distance_cases n a b in_a, distance_cases n a c in_a)))
    | no q ↦ (omega arith, inl (omega arith, omega (arith, distance_cases n a b in_a)))
  ]

-- a place after the hole, seen from a home before it
module _ (n a h : ℕ) (in_a : a < n) (in_h : h < n) where
  pub beyond : (i j : ℕ) → i < n → j < n → distance n a h < distance n a i → distance n h j < distance n h i → distance n a j < distance n a i
  beyond i j p q x y = omega (arith, distance_cases n a h in_a, distance_cases n a i in_a, distance_cases n a j in_a, distance_cases n h i in_h, distance_cases n h j in_h)

  pub onward : (i : ℕ) → i < n → distance n a h < distance n a i → distance n a h + distance n h i ≡ distance n a i
  onward i p x = omega (arith, distance_cases n a h in_a, distance_cases n a i in_a, distance_cases n h i in_h)
