-- Calls one after another.
use Rattle.std.proofs.Common.{◌≡◌, ℕ, ◌+◌, ◌-◌, ◌*◌, ◌^◌, ◌≤◌, Bool, true, false, refl, sym, ap, ◌∙◌, arith, subst}
use Rattle.std.specs.Prelude.{max, min}
use Rattle.std.proofs.Math.Nat.{mul-le-mul_left}
use Rattle.cow_model.specs.Purse.{Purse, less, more, noted, unit_if}
use Rattle.cow_champ.specs.Spending.{Spends}

pub spends_no : (h : Purse) → Spends 0 0 h h
spends_no h = record { falls = omega arith; copied = omega arith; kept = omega arith }

pub spends_after : (u c v d : ℕ) (x y z : Purse) → Spends u c x y → Spends v d y z → Spends (u + v) (c + d) x z
spends_after u c v d x y z a b = record { falls = omega (arith, a.falls, b.falls); copied = omega (arith, a.copied, b.copied); kept = omega (arith, a.kept, b.kept) }

pub spends_more : (u c v d : ℕ) (x y : Purse) → u ≤ v → c ≤ d → Spends u c x y → Spends v d x y
spends_more u c v d x y h k a = record { falls = omega (arith, a.falls, h); copied = omega (arith, a.copied, k); kept = a.kept }

pub spends_copy : (w : ℕ) (b : Bool) (x y : Purse) → y ≡ noted w (less (unit_if b) x) → Spends 1 w x y
spends_copy w b x y e = rw e (elim b as (λ b. Spends 1 w x (noted w (less (unit_if b) x))) [ true ↦ record { falls = omega arith; copied = omega arith; kept = omega arith } | false ↦ record { falls = omega arith; copied = omega arith; kept = omega arith } ])

pub spends_step : (u w i : ℕ) (x y z : Purse) → Spends (u * i) (w * i) x y → Spends u w y z → Spends (u * (i + 1)) (w * (i + 1)) x z
spends_step u w i x y z a b = record { falls = omega (arith, a.falls, b.falls); copied = omega (arith, a.copied, b.copied); kept = omega (arith, a.kept, b.kept) }

-- the number that a call may copy, by how many items
pub spends_upto : (u v w i n : ℕ) (x y : Purse) → u * i ≤ v → i ≤ n → Spends (u * i) (w * i) x y → Spends v (w * n) x y
spends_upto u v w i n x y h k a = spends_more (u * i) (w * i) v (w * n) x y h (mul-le-mul_left w k) a

pub spends_loss : (u c : ℕ) (x y : Purse) → y.copied ≡ x.copied → x.spare ≤ y.spare + u → Spends u c x y
spends_loss u c x y e f = record { falls = f; copied = omega (arith, e); kept = omega (arith, e) }

chain_sum : (w o d x y z : ℕ) → y ≤ x + w * o → z ≤ y + w * d → z ≤ x + w * (d + o)
chain_sum w o d x y z a b = omega (arith, a, b)

pub path_chain : (w o p x y z : ℕ) → o ≤ p → y ≤ x + w * o → z ≤ y + w * (p - o) → z ≤ x + w * p
path_chain w o p x y z h a b = let e : p - o + o ≡ p = omega (arith, h) in subst (λ q. z ≤ x + w * q) e (chain_sum w o (p - o) x y z a b)

-- what a call gives back
pub spends_gain : (u c k : ℕ) (x y : Purse) → y ≡ more k x → Spends u c x y
spends_gain u c k x y e = rw e (record { falls = omega arith; copied = omega arith; kept = omega arith })

pub spends_any : (u c : ℕ) (x : Purse) → Spends u c x x
spends_any u c x = record { falls = omega arith; copied = omega arith; kept = omega arith }

pub path_gain : (w a k : ℕ) (x y : Purse) → y ≡ more k x → y.copied ≤ x.copied + w * a
path_gain w a k x y e = let q : y.copied ≡ x.copied = ap (λ p. p.copied) e in omega (arith, q)

pub path_more : (w a b x z : ℕ) → a ≤ b → z ≤ x + w * a → z ≤ x + w * b
path_more w a b x z h e = omega (arith, e, mul-le-mul_left w h)
