-- What one key does to a set.
use Rattle.std.proofs.Common.{◌≡◌, ℕ, zero, suc, ◌≤◌, length, map, List, [], ◌∷◌, Bool, true, false, not, ◌||◌, cond, count_by, IsPermutation, slice_get, Option, Some, None, refl, sym, ap, ◌∙◌, subst, arith}
use Rattle.std.specs.Prelude.{option_map}
use Rattle.std.proofs.lemmas.Bool.{true≢false}
use Rattle.std.proofs.lemmas.List.Sums.{sum_by-cons}
use Rattle.cow_model.specs.Members.{member, in_order, ascending}
use Rattle.cow_model.specs.Order.{same}
use Rattle.cow_model.specs.Purse.{unit_if}
use Rattle.cow_model.specs.declared.plain.Literal.{Literal}
use Rattle.cow_members.specs.Ascents.{Ascends}
use Rattle.cow_members.proofs.Ascents.{itself, differs, member-ascending, length-ascending, ascends-out}
use Rattle.cow_members.proofs.Sets.{set-out}
use Rattle.cow_members.proofs.Operations.{set-without}
use Rattle.cow_members.specs.Sets.{found, without}

or-none : (a b : Bool) → (a || b) ≡ false → (a ≡ false) × (b ≡ false)
or-none true b e = cc
or-none false b e = (refl, e)

turned : (a x : Literal) → same a x ≡ false → same x a ≡ false
turned a x d = differs x a (λ e. true≢false (sym (subst (λ z. same a z ≡ true) (sym e) (itself a)) ∙ d))

-- what isn't there doesn't go
pub without-none : (a : Literal) (v : List Literal) → member a v ≡ false → v ≡ without a v
without-none a [] m = refl
without-none a (x ∷ v) m =
    let n = or-none (same a x) (member a v) m in
    ap (λ l. x ∷ l) (without-none a v n.1) ∙ sym (ap (λ t. cond (not (t || false)) (x ∷ without a v) (without a v)) (turned a x n.0))

-- a member is found
pub found-there : (a b : Literal) (v : List Literal) → member a v ≡ true → b ≡ a → Some b ≡ found a v
found-there a b v m e = ap (λ (z : Literal). Some z) e ∙ sym (ap (λ t. cond {A = Option Literal} t (Some a) None) m)

module _ {K : Type 0} (plain : K → Literal) where
  -- a row without members has no keys
  pub empty-by : (xs : List K) → ascending (map plain xs) ≡ [] → xs ≡ []
  empty-by [] e = refl
  empty-by (x ∷ xs) e = absurd (omega (arith, length-ascending (map plain (x ∷ xs)), ap length e))

  pub plain-at : (xs : List K) (i : ℕ) (x : K) (a : Literal) → slice_get xs i ≡ Some x → option_map plain (slice_get xs i) ≡ Some a → plain x ≡ a
  plain-at xs i x a e h = let z : Some (plain x) ≡ Some a = sym (ap (λ o. option_map plain o) e) ∙ h in cc

  -- the unit of a member is among those held
  pub held-unit : (p : Literal → Bool) (xs : List K) (a : Literal) (i : ℕ) → option_map plain (slice_get xs i) ≡ Some a → unit_if (p a) ≤ count_by p (map plain xs)
  held-unit p [] a i e = cc
  held-unit p (x ∷ xs) a zero e = let z : plain x ≡ a = cc in omega (arith, sum_by-cons (λ y. cond (p y) 1 0) (plain x) (map plain xs), ap (λ y. unit_if (p y)) z)
  held-unit p (x ∷ xs) a (suc i) e = omega (arith, sum_by-cons (λ y. cond (p y) 1 0) (plain x) (map plain xs), held-unit p xs a i e)

  -- a member is taken out
  pub removed-set : (xs ys : List K) (x : K) (a : Literal) → Ascends (ascending (map plain xs)) → IsPermutation xs (x ∷ ys) → plain x ≡ a → ascending (map plain ys) ≡ without a (ascending (map plain xs))
  removed-set xs ys x a s h e =
      let out = subst (λ b. ascending (map plain xs) ≡ in_order b (ascending (map plain ys))) e (set-out plain xs ys x h) in
      let both = ascends-out a (ascending (map plain ys)) (subst Ascends out s) in
      set-without a (map plain xs) (map plain ys) both.1 out (sym (member-ascending a (map plain ys)) ∙ both.0)
