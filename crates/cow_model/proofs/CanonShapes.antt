-- The canonical shape: what its pairs are, and what it has at each digit.
use Rattle.std.proofs.Common.{◌≡◌, ◌≢◌, ℕ, zero, suc, ◌+◌, ◌-◌, ◌*◌, ◌<◌, ◌≤◌, Bool, true, false, cond, not, ◌&&◌, eqb, ltb, List, [], ◌∷◌, ◌++◌, Option, Some, None, inl, inr, length, refl, sym, ap, ◌∙◌, arith, rules, subst, eqb-true, eq-eqb, ne_eqb, lt-ltb, le-ltb, append-nil, lit<, lit≤, mod-lt}
use Rattle.std.specs.List.{filter}
use Rattle.std.proofs.lemmas.Bool.{cases_Bool, cases_eq, cases_lt, cases_order, eqb-false}
use Rattle.std.proofs.lemmas.List.Elements.{filter-append}
use mathlib.Core.Path.{fun_ext}
use Rattle.cow_model.specs.declared.plain.Literal.{Literal}
use Rattle.cow_model.specs.declared.value.Pair.{Pair}
use Rattle.cow_model.specs.Canon.{count_where, is_one, is_before, has_key, IsDistinct, Tree, Slot, collide, branch, free, entry, child, spread, pairs, slot_pairs, placed, ascending, digit, group, slot_of, canon_over, canon, IsCanonical, without, get, given, AgreeBelow}
use Rattle.cow_model.proofs.CanonCounts.{count-append, count-filter, count-all, count-agree, filter_none, filter_all, filter-filter, Each, Each-filter, Each-map, count_never, count_none-from, filter_yes, filter_no}
use Rattle.cow_model.proofs.CanonOrder.{count-ascending, ascending-ascending, eq_means, eq_refl}

pub digit-lt : (hash level : ℕ) → digit hash level < 32
digit-lt hash level = search (rules, mod-lt)

-- ---- lists by digit

pub spread-agree : (f g : ℕ → List Pair) (n : ℕ) → ((d : ℕ) → d < n → f d ≡ g d) → spread n f ≡ spread n g
unfolding spread
spread-agree f g zero h = refl
spread-agree f g (suc n) h =
    let a : spread n f ≡ spread n g = spread-agree f g n (λ d k. h d (omega arith)) in
    let b : f n ≡ g n = h n (omega arith) in
    cc

pub count-spread : (t : Pair → Bool) (f g : ℕ → List Pair) → ((d : ℕ) → count_where t (f d) ≡ count_where t (g d)) → (n : ℕ) → count_where t (spread n f) ≡ count_where t (spread n g)
unfolding spread
count-spread t f g h zero = refl
count-spread t f g h (suc n) = omega (arith, count-append t (spread n f) (f n), count-append t (spread n g) (g n), h n, count-spread t f g h n)

module _ (hash_of : Literal → ℕ) where
  -- whether a pair has a digit at a level
  abbrev pub at_digit : ℕ → ℕ → Pair → Bool
  at_digit level d p = eqb (digit (hash_of p.key) level) d

  below_step : (a n : ℕ) (b : Bool) → cond (ltb a n && b) 1 0 + cond (eqb a n && b) 1 0 ≡ cond (ltb a (suc n) && b) 1 0
  below_step a n b =
      elim (cases_order a n) [
        | inl e ↦ rw (le-ltb a n (omega arith), eq-eqb a n e, lt-ltb a (suc n) (omega arith)) (omega arith)
        | inr k ↦ (elim k [
          | inl l ↦ rw (lt-ltb a n l, ne_eqb a n (λ e. omega arith), lt-ltb a (suc n) (omega arith)) (omega arith)
          | inr l ↦ rw (le-ltb a n (omega arith), ne_eqb a n (λ e. omega arith), le-ltb a (suc n) (omega arith)) refl
        ])
      ]

  count-below : (t : Pair → Bool) (level n : ℕ) (ps : List Pair) → count_where (λ p. ltb (digit (hash_of p.key) level) n && t p) ps + count_where (λ p. at_digit level n p && t p) ps ≡ count_where (λ p. ltb (digit (hash_of p.key) level) (suc n) && t p) ps
  count-below t level n [] = refl
  count-below t level n (p ∷ ps) = omega (arith, below_step (digit (hash_of p.key) level) n (t p), count-below t level n ps)

  count-spread_group : (t : Pair → Bool) (level : ℕ) (ps : List Pair) (n : ℕ) → count_where t (spread n (λ d. group hash_of level d ps)) ≡ count_where (λ p. ltb (digit (hash_of p.key) level) n && t p) ps
  unfolding spread group
  count-spread_group t level ps zero = sym (count_never _ (λ p. rw (le-ltb (digit (hash_of p.key) level) 0 (omega arith)) refl) ps)
  count-spread_group t level ps (suc n) =
      omega (arith, count-append t (spread n (λ d. group hash_of level d ps)) (filter (at_digit level n) ps), count-filter t (at_digit level n) ps, count-spread_group t level ps n, count-below t level n ps)

  -- the groups have the pairs of the whole
  pub count-groups : (t : Pair → Bool) (level : ℕ) (ps : List Pair) → count_where t (spread 32 (λ d. group hash_of level d ps)) ≡ count_where t ps
  count-groups t level ps = count-spread_group t level ps 32 ∙ count-agree _ _ (λ p. rw (lt-ltb (digit (hash_of p.key) level) 32 (digit-lt (hash_of p.key) level)) refl) ps

  pub count-slot_of : (t : Pair → Bool) (below : List Pair → Tree) → ((qs : List Pair) → count_where t (pairs (below qs)) ≡ count_where t qs) → (ps : List Pair) → count_where t (slot_pairs (slot_of hash_of below ps)) ≡ count_where t ps
  unfolding slot_of slot_pairs pairs
  count-slot_of t below h [] = refl
  count-slot_of t below h (p ∷ []) = refl
  count-slot_of t below h (p ∷ (q ∷ ps)) = h (p ∷ (q ∷ ps))

  -- the canonical shape has the pairs that it was made of
  pub count-canon_over : (t : Pair → Bool) (n level : ℕ) (ps : List Pair) → count_where t (pairs (canon_over hash_of n level ps)) ≡ count_where t ps
  unfolding canon_over pairs
  count-canon_over t zero level ps = count-ascending t ps
  count-canon_over t (suc n) level ps =
      count-spread t _ (λ d. group hash_of level d ps) (λ d. count-slot_of t (canon_over hash_of n (suc level)) (count-canon_over t n (suc level)) (group hash_of level d ps)) 32
      ∙ count-groups t level ps

  pub length-canon_over : (n level : ℕ) (ps : List Pair) → length (pairs (canon_over hash_of n level ps)) ≡ length ps
  length-canon_over n level ps = sym (count-all _) ∙ count-canon_over (λ _. true) n level ps ∙ count-all ps

  -- ---- the groups of the pairs of a canonical shape are what it has at each digit

  -- no pair of another digit
  pub group-group : (level d e : ℕ) (ps : List Pair) → d ≢ e → count_where (at_digit level d) (group hash_of level e ps) ≡ 0
  unfolding group
  group-group level d e ps h =
      count-filter (at_digit level d) (at_digit level e) ps
      ∙ count_never _ (λ p. elim (cases_Bool (at_digit level e p))
      [ inl k ↦ rw k (ne_eqb _ d (λ c. h (sym c ∙ eqb-true _ e k))) | inr k ↦ rw k refl ]) ps

  pub group_whole : (level d : ℕ) (ps : List Pair) → count_where (λ p. not (at_digit level d p)) (group hash_of level d ps) ≡ 0
  unfolding group
  group_whole level d ps =
      count-filter (λ p. not (at_digit level d p)) (at_digit level d) ps
      ∙ count_never _ (λ p. elim (at_digit level d p) as (λ b. (b && not b) ≡ false) [ true ↦ refl | false ↦ refl ]) ps

  group-spread_below : (level d : ℕ) (f : ℕ → List Pair) → ((e : ℕ) → d ≢ e → count_where (at_digit level d) (f e) ≡ 0) → (n : ℕ) → n ≤ d → group hash_of level d (spread n f) ≡ []
  unfolding group spread
  group-spread_below level d f other zero h = refl
  group-spread_below level d f other (suc n) h =
      rw (filter-append (at_digit level d) (spread n f) (f n), filter_none (at_digit level d) (f n) (other n (λ e. omega arith)), group-spread_below level d f other n (omega arith)) refl

  -- the group of a digit in lists by digit
  pub group-spread : (level d : ℕ) (f : ℕ → List Pair) → ((e : ℕ) → d ≢ e → count_where (at_digit level d) (f e) ≡ 0) → count_where (λ p. not (at_digit level d p)) (f d) ≡ 0 → (n : ℕ) → d < n → group hash_of level d (spread n f) ≡ f d
  unfolding group spread
  group-spread level d f other own zero h = absurd (omega arith)
  group-spread level d f other own (suc n) h =
      elim (cases_eq d n) [
        | inl e ↦ rw (filter-append (at_digit level d) (spread n f) (f n), group-spread_below level d f other n (omega arith)) (subst (λ m. filter (at_digit level d) (f m) ≡ f d) e (filter_all (at_digit level d) (f d) own))
        | inr k ↦ rw (filter-append (at_digit level d) (spread n f) (f n), filter_none (at_digit level d) (f n) (other n k), group-spread level d f other own n (omega arith)) (append-nil (f d))
      ]

  pub slot_two : (below : List Pair → Tree) (xs : List Pair) → 2 ≤ length xs → slot_of hash_of below xs ≡ child (below xs)
  unfolding slot_of
  slot_two below [] h = absurd (omega arith)
  slot_two below (p ∷ []) h = absurd (omega arith)
  slot_two below (p ∷ (q ∷ xs)) h = refl

  -- the slot of a slot's pairs is the slot
  slot_again : (below : List Pair → Tree) → ((qs : List Pair) → length (pairs (below qs)) ≡ length qs) → ((qs : List Pair) → below (pairs (below qs)) ≡ below qs) → (qs : List Pair) → slot_of hash_of below (slot_pairs (slot_of hash_of below qs)) ≡ slot_of hash_of below qs
  unfolding slot_of slot_pairs pairs
  slot_again below len again [] = refl
  slot_again below len again (p ∷ []) = refl
  slot_again below len again (p ∷ (q ∷ qs)) =
      slot_two below (pairs (below (p ∷ (q ∷ qs)))) (omega (arith, len (p ∷ (q ∷ qs)))) ∙ ap child (again (p ∷ (q ∷ qs)))

  -- what a canonical shape has at a digit has the pairs of that digit
  at_of : ℕ → ℕ → List Pair → ℕ → Slot
  at_of n level ps d = slot_of hash_of (canon_over hash_of n (suc level)) (group hash_of level d ps)

  count-at_of : (t : Pair → Bool) (n level : ℕ) (ps : List Pair) (d : ℕ) → count_where t (slot_pairs (at_of n level ps d)) ≡ count_where t (group hash_of level d ps)
  unfolding at_of
  count-at_of t n level ps d = count-slot_of t (canon_over hash_of n (suc level)) (count-canon_over t n (suc level)) (group hash_of level d ps)

  at_of_other : (n level : ℕ) (ps : List Pair) (d e : ℕ) → d ≢ e → count_where (at_digit level d) (slot_pairs (at_of n level ps e)) ≡ 0
  at_of_other n level ps d e h = count-at_of (at_digit level d) n level ps e ∙ group-group level d e ps h

  group-at_of : (n level d : ℕ) (ps : List Pair) → d < 32 → group hash_of level d (spread 32 (λ e. slot_pairs (at_of n level ps e))) ≡ slot_pairs (at_of n level ps d)
  group-at_of n level d ps h =
      group-spread level d (λ e. slot_pairs (at_of n level ps e)) (at_of_other n level ps d) (count-at_of _ n level ps d ∙ group_whole level d ps) 32 h

  pub group_past : (level d : ℕ) (ps : List Pair) → 32 ≤ d → group hash_of level d ps ≡ []
  unfolding group
  group_past level d ps h = filter_none (at_digit level d) ps (count_never _ (λ p. ne_eqb _ d (λ e. let l = digit-lt (hash_of p.key) level in omega (arith, l))) ps)

  pub group-canon_over : (n level d : ℕ) (ps : List Pair) → d < 32 → group hash_of level d (pairs (canon_over hash_of (suc n) level ps)) ≡ slot_pairs (slot_of hash_of (canon_over hash_of n (suc level)) (group hash_of level d ps))
  unfolding canon_over pairs at_of
  group-canon_over n level d ps h = group-at_of n level d ps h

  -- the canonical shape of a canonical shape's pairs is the shape
  pub canon_over_again : (n level : ℕ) (ps : List Pair) → canon_over hash_of n level (pairs (canon_over hash_of n level ps)) ≡ canon_over hash_of n level ps
  unfolding canon_over pairs
  canon_over_again zero level ps = ap collide (ascending-ascending ps)
  canon_over_again (suc n) level ps =
      ap branch (fun_ext (λ d. elim (cases_lt d 32) [
        | inl h ↦ ap (slot_of hash_of (canon_over hash_of n (suc level))) (group-canon_over n level d ps h)
            ∙ slot_again (canon_over hash_of n (suc level)) (length-canon_over n (suc level)) (canon_over_again n (suc level)) (group hash_of level d ps)
        | inr h ↦ ap (slot_of hash_of (canon_over hash_of n (suc level))) (group_past level d _ h ∙ sym (group_past level d ps h))
      ]))
