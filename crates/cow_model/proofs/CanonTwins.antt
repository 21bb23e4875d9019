-- A node of nothing, a node of two pairs, and keys whose digits all agree.
use Rattle.std.proofs.Common.{◌≡◌, ◌≢◌, ℕ, zero, suc, ◌+◌, ◌-◌, ◌*◌, ◌/◌, ◌%◌, ◌^◌, ◌<◌, ◌≤◌, Bool, true, false, cond, not, ◌&&◌, eqb, List, [], ◌∷◌, inl, inr, length, refl, sym, ap, ◌∙◌, arith, subst, eq-eqb, ne_eqb, mod-eq_of_lt, mod-lt, All}
use Rattle.std.proofs.lemmas.Bool.{cases_eq, cases_Bool}
use Rattle.std.proofs.lemmas.Nat.{mod-pow-add}
use mathlib.Core.Path.{fun_ext}
use Rattle.cow_model.specs.declared.plain.Literal.{Literal}
use Rattle.cow_model.specs.declared.value.Pair.{Pair}
use Rattle.cow_model.specs.Canon.{count_where, is_before, Tree, Slot, branch, collide, free, entry, child, digit, group, slot_of, slot_pairs, pairs, IsCanonical, canon, canon_over, ascending, placed}
use Rattle.cow_model.proofs.CanonCounts.{filter_yes, filter_no, count-filter, count-agree}
use Rattle.cow_model.proofs.CanonShapes.{at_digit}
use Rattle.cow_model.proofs.CanonSlots.{canon-branch, group_is, slot_pairs-entry, slot_pairs-child, slot_pairs-free}

module _ (hash_of : Literal → ℕ) (level : ℕ) where
  slot_none : (below : List Pair → Tree) (x : ℕ) → slot_of hash_of below (group hash_of level x []) ≡ free
  unfolding slot_of group
  slot_none below x = refl

  pub slot_empty : (below : List Pair → Tree) → slot_of hash_of below [] ≡ free
  unfolding slot_of
  slot_empty below = refl

  pub slot_one : (below : List Pair → Tree) (p : Pair) → slot_of hash_of below (p ∷ []) ≡ entry p
  unfolding slot_of
  slot_one below p = refl

  pub slot_both : (below : List Pair → Tree) (p q : Pair) → slot_of hash_of below (p ∷ q ∷ []) ≡ child (below (p ∷ q ∷ []))
  unfolding slot_of
  slot_both below p q = refl

  group_nil : (x : ℕ) → group hash_of level x [] ≡ []
  unfolding group
  group_nil x = refl

  group_in : (x : ℕ) (p : Pair) (ps : List Pair) → x ≡ digit (hash_of p.key) level → group hash_of level x (p ∷ ps) ≡ p ∷ group hash_of level x ps
  unfolding group
  group_in x p ps e = filter_yes (at_digit hash_of level x) p ps (eq-eqb (digit (hash_of p.key) level) x (sym e))

  group_out : (x : ℕ) (p : Pair) (ps : List Pair) → x ≢ digit (hash_of p.key) level → group hash_of level x (p ∷ ps) ≡ group hash_of level x ps
  unfolding group
  group_out x p ps ne = filter_no (at_digit hash_of level x) p ps (ne_eqb (digit (hash_of p.key) level) x (λ e. ne (sym e)))

module _ (hash_of : Literal → ℕ) (at : ℕ → Slot) (level next : ℕ) (e : next ≡ level + 1) (h : next ≤ 7) where
  -- nothing at any digit
  pub canon_none : ((x : ℕ) → at x ≡ free) → branch at ≡ canon hash_of [] level
  canon_none f =
      ap branch (fun_ext (λ x. f x ∙ sym (slot_none hash_of level (λ qs. canon hash_of qs next) x)))
      ∙ sym (canon-branch hash_of [] level next e h)

  module _ (p q : Pair) where
    slots_are : ((x : ℕ) → at x ≡ slot_of hash_of (λ qs. canon hash_of qs next) (group hash_of level x (p ∷ q ∷ []))) → branch at ≡ canon hash_of (p ∷ q ∷ []) level
    slots_are f = ap branch (fun_ext f) ∙ sym (canon-branch hash_of (p ∷ q ∷ []) level next e h)

    -- both at one digit
    pub pair_together : (d : ℕ) → d ≡ digit (hash_of p.key) level → d ≡ digit (hash_of q.key) level → (s : Tree) → s ≡ canon hash_of (p ∷ q ∷ []) next → at d ≡ child s → ((x : ℕ) → x ≢ d → at x ≡ free) → branch at ≡ canon hash_of (p ∷ q ∷ []) level
    pair_together d a b s c here others =
        let below : List Pair → Tree = λ qs. canon hash_of qs next in
        slots_are (λ x. elim (cases_eq x d) [
          | inl k ↦ subst (λ y. at y ≡ slot_of hash_of below (group hash_of level y (p ∷ q ∷ []))) (sym k)
              (here ∙ ap child c ∙ sym (ap (slot_of hash_of below) (group_in hash_of level d p (q ∷ []) a ∙ ap (λ ys. p ∷ ys) (group_in hash_of level d q [] b ∙ ap (λ ys. q ∷ ys) (group_nil hash_of level d))) ∙ slot_both hash_of level below p q))
          | inr ne ↦ others x ne ∙ sym (ap (slot_of hash_of below) (group_out hash_of level x p (q ∷ []) (λ y. ne (y ∙ sym a)) ∙ group_out hash_of level x q [] (λ y. ne (y ∙ sym b)) ∙ group_nil hash_of level x) ∙ slot_empty hash_of level below)
        ])

    -- each at a digit of its own
    pub pair_apart : (d f : ℕ) → d ≡ digit (hash_of p.key) level → f ≡ digit (hash_of q.key) level → d ≢ f → at d ≡ entry p → at f ≡ entry q → ((x : ℕ) → x ≢ d → x ≢ f → at x ≡ free) → branch at ≡ canon hash_of (p ∷ q ∷ []) level
    pair_apart d f a b ne one two others =
        let below : List Pair → Tree = λ qs. canon hash_of qs next in
        slots_are (λ x. elim (cases_eq x d) [
          | inl k ↦ subst (λ y. at y ≡ slot_of hash_of below (group hash_of level y (p ∷ q ∷ []))) (sym k)
              (one ∙ sym (ap (slot_of hash_of below) (group_in hash_of level d p (q ∷ []) a ∙ ap (λ ys. p ∷ ys) (group_out hash_of level d q [] (λ y. ne (y ∙ sym b)) ∙ group_nil hash_of level d)) ∙ slot_one hash_of level below p))
          | inr nd ↦ (elim (cases_eq x f) [
            | inl k ↦ subst (λ y. at y ≡ slot_of hash_of below (group hash_of level y (p ∷ q ∷ []))) (sym k)
                (two ∙ sym (ap (slot_of hash_of below) (group_out hash_of level f p (q ∷ []) (λ y. ne (a ∙ sym y)) ∙ group_in hash_of level f q [] b ∙ ap (λ ys. q ∷ ys) (group_nil hash_of level f)) ∙ slot_one hash_of level below q))
            | inr nf ↦ others x nd nf ∙ sym (ap (slot_of hash_of below) (group_out hash_of level x p (q ∷ []) (λ y. nd (y ∙ sym a)) ∙ group_out hash_of level x q [] (λ y. nf (y ∙ sym b)) ∙ group_nil hash_of level x) ∙ slot_empty hash_of level below)
          ])
        ])

-- seven digits determine a hash of 32 bits
digits_below : (a b : ℕ) → ((l : ℕ) → l < 7 → digit a l ≡ digit b l) → (n : ℕ) → n ≤ 7 → a % 2 ^ (5 * n) ≡ b % 2 ^ (5 * n)
digits_below a b h zero k = let p : a % 1 ≡ 0 = omega (arith, mod-lt a {m = 1} (omega arith)) in let q : b % 1 ≡ 0 = omega (arith, mod-lt b {m = 1} (omega arith)) in p ∙ sym q
digits_below a b h (suc n) k =
    let e : 5 * suc n ≡ 5 + 5 * n = omega arith in
    let d : digit a n ≡ digit b n = h n (omega arith) in
    rw e (mod-pow-add a 5 (5 * n) ∙ ap (λ x. x * 2 ^ (5 * n) + a % 2 ^ (5 * n)) d ∙ ap (λ x. digit b n * 2 ^ (5 * n) + x) (digits_below a b h n (omega arith)) ∙ sym (mod-pow-add b 5 (5 * n)))

pub same_hash : (a b : ℕ) → a < 2 ^ 32 → b < 2 ^ 32 → ((l : ℕ) → l < 7 → digit a l ≡ digit b l) → a ≡ b
same_hash a b x y h =
    let p : a < 2 ^ (5 * 7) = omega arith in
    let q : b < 2 ^ (5 * 7) = omega arith in
    sym (mod-eq_of_lt p) ∙ digits_below a b h 7 (omega arith) ∙ mod-eq_of_lt q

pub count_every : (t : Pair → Bool) (xs : List Pair) → All (λ p. t p ≡ true) xs → count_where t xs ≡ length xs
count_every t [] a = refl
count_every t (x ∷ xs) a =
    let e : t x ≡ true = a 0 x (omega arith) in
    let ih = count_every t xs (λ i d l. a (suc i) d (omega (arith, l))) in
    rw e (omega (arith, ih))

module _ (hash_of : Literal → ℕ) where
  pub collide_none : collide [] ≡ canon hash_of [] 7
  unfolding canon canon_over ascending
  collide_none = refl

  pub collide_turned : (p q : Pair) → is_before q.key p.key ≡ true → collide (q ∷ p ∷ []) ≡ canon hash_of (p ∷ q ∷ []) 7
  unfolding canon canon_over ascending placed
  collide_turned p q h = rw h refl

  pub collide_straight : (p q : Pair) → is_before q.key p.key ≡ false → collide (p ∷ q ∷ []) ≡ canon hash_of (p ∷ q ∷ []) 7
  unfolding canon canon_over ascending placed
  collide_straight p q h = rw h refl

-- pairs that pass a test which fixes the digit stand in that digit's group
pub count_group : (hash_of : Literal → ℕ) (t : Pair → Bool) (level d : ℕ) → ((p : Pair) → t p ≡ true → digit (hash_of p.key) level ≡ d) → (ps : List Pair) → count_where t (group hash_of level d ps) ≡ count_where t ps
unfolding group
count_group hash_of t level d f ps =
    count-filter t (at_digit hash_of level d) ps
    ∙ count-agree (λ p. at_digit hash_of level d p && t p) t
    (λ p. elim (cases_Bool (t p)) [
      | inl a ↦ rw (a, eq-eqb (digit (hash_of p.key) level) d (f p a)) refl
      | inr a ↦ (elim (cases_Bool (at_digit hash_of level d p)) [ inl b ↦ rw (b, a) refl | inr b ↦ rw (b, a) refl ])
    ]) ps

-- and so the slot of that digit has them all
pub count_at : (hash_of : Literal → ℕ) (at : ℕ → Slot) (level next : ℕ) → next ≡ level + 1 → next ≤ 7 → IsCanonical hash_of (branch at) level → (t : Pair → Bool) (d : ℕ) → d < 32 → ((p : Pair) → t p ≡ true → digit (hash_of p.key) level ≡ d) → count_where t (pairs (branch at)) ≡ count_where t (slot_pairs (at d))
count_at hash_of at level next e h c t d k f = sym (count_group hash_of t level d f (pairs (branch at))) ∙ ap (count_where t) (group_is hash_of at level next e h c d k)

pub count_entry : (t : Pair → Bool) (p : Pair) → count_where t (slot_pairs (entry p)) ≡ cond (t p) 1 0
count_entry t p = ap (count_where t) (slot_pairs-entry p) ∙ omega arith

pub count_child : (t : Pair → Bool) (s : Tree) → count_where t (slot_pairs (child s)) ≡ count_where t (pairs s)
count_child t s = ap (count_where t) (slot_pairs-child s)

pub count_free : (t : Pair → Bool) → count_where t (slot_pairs free) ≡ 0
count_free t = ap (count_where t) slot_pairs-free
