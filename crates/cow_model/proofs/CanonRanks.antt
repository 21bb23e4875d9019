-- Ranks: how many bits of a number are set below a place.
use Rattle.std.proofs.Common.{◌≡◌, ◌≢◌, ℕ, zero, suc, ◌+◌, ◌-◌, ◌*◌, ◌/◌, ◌%◌, ◌^◌, ◌<◌, ◌≤◌, Bool, true, false, cond, ltb, eqb, inl, inr, refl, sym, ap, ◌∙◌, arith, rules, subst, lt-ltb, le-ltb, eqb-true, eq-eqb, ne_eqb, pow_pos, mod-eq_of_lt, mod-lt}
use Rattle.std.proofs.lemmas.Bool.{cases_eq, cases_lt, cases_order, eqb-false}
use Rattle.std.specs.Int.{bit_at}
use Rattle.std.specs.Int.Count.{ones}
use Rattle.std.specs.Int.Bits.{bit_and}
use Rattle.std.proofs.lemmas.Nat.{ones_cat, and_mask, mod-pow-add, pow_below}
use Rattle.std.proofs.lemmas.Nat.Bits.{bit_at-lt}
use Rattle.std.proofs.lemmas.Grind.{common_steps}
use Rattle.cow_model.specs.Slots.{rank}

pub rank-suc : (n d : ℕ) → rank n (suc d) ≡ rank n d + bit_at n d
unfolding rank
rank-suc n d = refl

low_step : (n d : ℕ) → n % 2 ^ suc d ≡ bit_at n d * 2 ^ d + n % 2 ^ d
low_step n d = let e : suc d ≡ 1 + d = omega arith in rw e (mod-pow-add n 1 d)

ones_bit : (b : ℕ) → b < 2 → ones b ≡ b
unfolding ones
ones_bit zero h = refl
ones_bit (suc zero) h = refl
ones_bit (suc (suc b)) h = absurd (omega arith)

-- the bits below a place, as the code counts them
pub ones_below : (n d : ℕ) → ones (n % 2 ^ d) ≡ rank n d
unfolding rank ones
ones_below n zero = let e : n % 1 ≡ 0 = omega (arith, mod-lt n {m = 1} (omega arith)) in ap ones e
ones_below n (suc d) =
    let e : ones (n % 2 ^ suc d) ≡ ones (bit_at n d) + ones (n % 2 ^ d) = ap ones (low_step n d) ∙ ones_cat d (bit_at n d) (n % 2 ^ d) (mod-lt n (pow_pos d)) in
    omega (arith, e, ones_bit (bit_at n d) (bit_at-lt n d), ones_below n d)

pub ones-mask : (n d : ℕ) → d < 32 → ones (bit_and n (1 * 2 ^ d % 4294967296 - 1)) ≡ rank n d
ones-mask n d h =
    let p : 2 ^ d < 4294967296 = pow_below d 32 h in
    let q : 1 * 2 ^ d ≡ 2 ^ d = omega arith in
    let e : 1 * 2 ^ d % 4294967296 ≡ 2 ^ d = rw q (mod-eq_of_lt p) in
    rw (e, and_mask n d) (ones_below n d)

-- ranks rise
pub rank-le : (n d e : ℕ) → d ≤ e → rank n d ≤ rank n e
unfolding rank
rank-le n d zero h = let z : d ≡ 0 = omega arith in rw z (omega arith)
rank-le n d (suc e) h =
    elim (cases_eq d (suc e)) [
      | inl k ↦ rw k (omega arith)
      | inr k ↦ omega (arith, rank-le n d e (omega arith))
    ]

pub rank-lt : (n d e : ℕ) → bit_at n d ≡ 1 → d < e → rank n d < rank n e
rank-lt n d e h k = omega (arith, rank-suc n d, rank-le n (suc d) e (omega arith))

-- a set of digits that has one more
module _ (m n d : ℕ) (others : (e : ℕ) → e ≢ d → bit_at n e ≡ bit_at m e) (was : bit_at m d ≡ 0) (is : bit_at n d ≡ 1) where
  pub rank_more : (e : ℕ) → rank n e ≡ rank m e + cond (ltb d e) 1 0
  unfolding rank
  rank_more zero = rw (le-ltb d 0 (omega arith)) (omega arith)
  rank_more (suc e) =
      elim (cases_order d e) [
        | inl k ↦
            let a : bit_at m e ≡ 0 = subst (λ x. bit_at m x ≡ 0) k was in
            let b : bit_at n e ≡ 1 = subst (λ x. bit_at n x ≡ 1) k is in
            let ih : rank n e ≡ rank m e + 0 = rw (le-ltb d e (omega arith)) at (rank_more e) in
            rw (lt-ltb d (suc e) (omega arith)) (omega (arith, a, b, ih))
        | inr k ↦
            let a : bit_at n e ≡ bit_at m e = others e (λ x. elim k [ inl l ↦ omega arith | inr l ↦ omega arith ]) in
            elim k [
              | inl l ↦
                  let ih : rank n e ≡ rank m e + 1 = rw (lt-ltb d e l) at (rank_more e) in
                  rw (lt-ltb d (suc e) (omega arith)) (omega (arith, a, ih))
              | inr l ↦
                  let ih : rank n e ≡ rank m e + 0 = rw (le-ltb d e (omega arith)) at (rank_more e) in
                  rw (le-ltb d (suc e) (omega arith)) (omega (arith, a, ih))
            ]
      ]
