-- How often rules have been asked, after one statement and after several.
use Rattle.std.proofs.Common.{◌≡◌, ℕ, ◌+◌, ◌-◌, ◌^◌, ◌≤◌, zero, suc, List, [], ◌∷◌, get_or, set, refl, sym, ◌∙◌, ap, arith}
use Rattle.std.specs.Prelude.{min, max}
use Rattle.cow_rule.specs.Asked.{raised}
use Rattle.cow_views.specs.Asks.{raised_by}

-- not at all
raised-zero : (n a : ℕ) → n ≡ 0 → raised n a ≡ a
raised-zero n a is = omega (arith, is)

-- so often, and so often more
raised-twice : (n m a : ℕ) → raised m (raised n a) ≡ raised (n + m) a
raised-twice n m a = omega arith

-- no rule is asked
pub raised-none : (n : ℕ → ℕ) → ((k : ℕ) → n k ≡ 0) → (asked : List ℕ) → raised_by n asked ≡ asked
raised-none n none [] = refl
raised-none n none (a ∷ asked) = rw (raised-zero (n 0) a (none 0), raised-none (λ k. n (k + 1)) (λ k. none (k + 1)) asked) refl

-- one rule is asked
pub raised-one : (n : ℕ → ℕ) (place m : ℕ) → n place ≡ m → ((k : ℕ) → (k ≡ place → ⊥) → n k ≡ 0) → (asked : List ℕ) (d : ℕ) → raised_by n asked ≡ set asked place (raised m (get_or asked place d))
raised-one n place m here none [] d = refl
raised-one n zero m here none (a ∷ asked) d =
    rw (here, raised-none (λ k. n (k + 1)) (λ k. none (k + 1) (λ is. absurd (omega (arith, is)))) asked) refl
raised-one n (suc place) m here none (a ∷ asked) d =
    let next : place + 1 ≡ suc place = omega arith in
    rw (raised-zero (n 0) a (none 0 (λ is. absurd (omega (arith, is)))), raised-one (λ k. n (k + 1)) place m (ap n next ∙ here) (λ k apart. none (k + 1) (λ is. apart (omega (arith, is)))) asked d) refl

-- rules are asked so often, and so often more
pub raised-on : (n m : ℕ → ℕ) (asked : List ℕ) → raised_by m (raised_by n asked) ≡ raised_by (λ k. n k + m k) asked
raised-on n m [] = refl
raised-on n m (a ∷ asked) = rw (raised-twice (n 0) (m 0) a, raised-on (λ k. n (k + 1)) (λ k. m (k + 1)) asked) refl
