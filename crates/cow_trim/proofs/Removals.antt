-- A key goes: what is left of a canonical node.
use Rattle.std.proofs.Common.{◌≡◌, ◌≢◌, ℕ, zero, suc, ◌+◌, ◌<◌, ◌≤◌, true, false, cond, not, ◌&&◌, List, [], ◌∷◌, inl, inr, length, get_or, refl, sym, ap, ◌∙◌, arith, subst, eqb-true}
use Rattle.std.specs.List.{filter, remove}
use Rattle.std.proofs.lemmas.Bool.{cases_Bool, cases_eq}
use mathlib.Core.Path.{fun_ext}
use Rattle.cow_model.specs.declared.plain.Literal.{Literal}
use Rattle.cow_model.specs.declared.value.Pair.{Pair}
use Rattle.cow_model.specs.Canon.{count_where, is_one, has_key, IsDistinct, Tree, Slot, collide, branch, free, entry, child, pairs, slot_pairs, ascending, digit, group, slot_of, canon_over, canon, IsCanonical, without}
use Rattle.cow_model.proofs.CanonCounts.{count-filter, filter_all, filter-filter, count_never}
use Rattle.cow_model.proofs.CanonOrder.{eq_means, IsAscending, IsAscending-ascending, IsAscending-filter, ascending_fixed}
use Rattle.cow_model.proofs.CanonShapes.{digit-lt, at_digit, slot_two}
use Rattle.cow_model.proofs.CanonSlots.{slot_pairs-child, count-filter-le, canon-branch, at_is, group_is}

-- ---- the pairs without a key
pub without_none : (k : Literal) (ps : List Pair) → count_where (has_key k) ps ≡ 0 → without k ps ≡ ps
unfolding without
without_none k [] h = refl
without_none k (p ∷ ps) h =
    (elim (has_key k p) as (λ b. cond b 1 0 + count_where (has_key k) ps ≡ 0 → cond (not b) (p ∷ filter (λ q. not (has_key k q)) ps) (filter (λ q. not (has_key k q)) ps) ≡ p ∷ ps)
    [ true ↦ λ m. absurd (omega arith) | false ↦ λ m. ap (λ qs. p ∷ qs) (without_none k ps (omega arith)) ]) h

pub IsDistinct-without : (k : Literal) (ps : List Pair) → IsDistinct ps → IsDistinct (without k ps)
unfolding without
IsDistinct-without k ps h j = omega (arith, h j, count-filter-le (has_key j) (λ q. not (has_key k q)) ps)

module _ (hash_of : Literal → ℕ) where
  pub group-without : (level d : ℕ) (k : Literal) (ps : List Pair) → group hash_of level d (without k ps) ≡ without k (group hash_of level d ps)
  unfolding group without
  group-without level d k ps = filter-filter (at_digit hash_of level d) (λ q. not (has_key k q)) ps

  -- a key is at its own digit alone
  pub group-without_other : (level d : ℕ) (k : Literal) (ps : List Pair) → d ≢ digit (hash_of k) level → group hash_of level d (without k ps) ≡ group hash_of level d ps
  unfolding group without
  group-without_other level d k ps h =
      filter-filter (at_digit hash_of level d) (λ q. not (has_key k q)) ps
      ∙ filter_all (λ q. not (has_key k q)) (filter (at_digit hash_of level d) ps)
      (count-filter (λ q. not (not (has_key k q))) (at_digit hash_of level d) ps
      ∙ count_never (λ p. at_digit hash_of level d p && not (not (has_key k p))) (λ p. elim (cases_Bool (at_digit hash_of level d p)) [
        | inl e ↦
            let f : has_key k p ≡ false = elim (cases_Bool (has_key k p)) [ inl g ↦ absurd (h (sym (eqb-true _ _ e) ∙ ap (λ j. digit (hash_of j) level) (eq_means _ _ g))) | inr g ↦ g ] in
            rw (e, f) refl
        | inr e ↦ rw e refl
      ]) ps)

  -- ---- the slot of a digit after its key went
  pub gone_entry : (below : List Pair → Tree) (k : Literal) (q : Pair) → is_one q.key k ≡ true → slot_of hash_of below (without k (slot_pairs (entry q))) ≡ free
  unfolding slot_of slot_pairs pairs without
  gone_entry below k q h = rw h refl

  pub gone_child : (below : List Pair → Tree) (k : Literal) (s : Tree) → 2 ≤ length (without k (pairs s)) → slot_of hash_of below (without k (slot_pairs (child s))) ≡ child (below (without k (pairs s)))
  gone_child below k s h = ap (λ ps. slot_of hash_of below (without k ps)) (slot_pairs-child s) ∙ slot_two hash_of below (without k (pairs s)) h

  -- a child of which one pair is left becomes an entry
  pub gone_one : (below : List Pair → Tree) (k : Literal) (s : Tree) (p : Pair) → without k (pairs s) ≡ p ∷ [] → slot_of hash_of below (without k (slot_pairs (child s))) ≡ entry p
  unfolding slot_of
  gone_one below k s p h = ap (λ ps. slot_of hash_of below (without k ps)) (slot_pairs-child s) ∙ ap (slot_of hash_of below) h

  -- ---- a node in which one slot changes
  module _ (at : ℕ → Slot) (level next : ℕ) (e : next ≡ level + 1) (h : next ≤ 7) (c : IsCanonical hash_of (branch at) level) (k : Literal) (d : ℕ) (here : d ≡ digit (hash_of k) level) (at' : ℕ → Slot) (others : (x : ℕ) → x ≢ d → at' x ≡ at x) where
    below : List Pair → Tree
    below qs = canon hash_of qs next

    without_here : at' d ≡ slot_of hash_of (λ qs. canon hash_of qs next) (without k (slot_pairs (at d))) → branch at' ≡ canon hash_of (without k (pairs (branch at))) level
    without_here f =
        let small : d < 32 = subst (λ x. x < 32) (sym here) (digit-lt (hash_of k) level) in
        ap branch (fun_ext (λ x. elim (cases_eq x d) [
          | inl q ↦ subst (λ y. at' y ≡ slot_of hash_of (λ qs. canon hash_of qs next) (group hash_of level y (without k (pairs (branch at))))) (sym q)
              (f ∙ ap (λ ps. slot_of hash_of (λ qs. canon hash_of qs next) (without k ps)) (sym (group_is hash_of at level next e h c d small))
              ∙ ap (slot_of hash_of (λ qs. canon hash_of qs next)) (sym (group-without level d k (pairs (branch at)))))
          | inr q ↦ others x q ∙ at_is hash_of at level next e h c x
              ∙ ap (slot_of hash_of (λ qs. canon hash_of qs next)) (sym (group-without_other level x k (pairs (branch at)) (λ y. q (y ∙ sym here))))
        ]))
        ∙ sym (canon-branch hash_of (without k (pairs (branch at))) level next e h)

    -- the three ways in which a key goes, by what stands at its digit
    pub cut_at_entry : (q : Pair) → at d ≡ entry q → is_one q.key k ≡ true → at' d ≡ free → branch at' ≡ canon hash_of (without k (pairs (branch at))) level
    cut_at_entry q f m g = without_here (g ∙ sym (ap (λ t. slot_of hash_of (λ qs. canon hash_of qs next) (without k (slot_pairs t))) f ∙ gone_entry (λ qs. canon hash_of qs next) k q m))

    pub cut_at_child : (s : Tree) → at d ≡ child s → 2 ≤ length (without k (pairs s)) → (s' : Tree) → s' ≡ canon hash_of (without k (pairs s)) next → at' d ≡ child s' → branch at' ≡ canon hash_of (without k (pairs (branch at))) level
    cut_at_child s f l s' n g = without_here (g ∙ ap child n ∙ sym (ap (λ t. slot_of hash_of (λ qs. canon hash_of qs next) (without k (slot_pairs t))) f ∙ gone_child (λ qs. canon hash_of qs next) k s l))

    pub cut_at_one : (s : Tree) → at d ≡ child s → (p : Pair) → without k (pairs s) ≡ p ∷ [] → at' d ≡ entry p → branch at' ≡ canon hash_of (without k (pairs (branch at))) level
    cut_at_one s f p l g = without_here (g ∙ sym (ap (λ t. slot_of hash_of (λ qs. canon hash_of qs next) (without k (slot_pairs t))) f ∙ gone_one (λ qs. canon hash_of qs next) k s p l))

-- ---- a collision node
counted_at : (k : Literal) (ps : List Pair) (i : ℕ) → i < length ps → ((x : Pair) → is_one (get_or ps i x).key k ≡ true) → 1 ≤ count_where (has_key k) ps
counted_at k [] i l f = absurd (omega (arith, l))
counted_at k (q ∷ qs) zero l f = let e : is_one q.key k ≡ true = f q in rw e (omega arith)
counted_at k (q ∷ qs) (suc i) l f = let ih = counted_at k qs i (omega arith) f in omega (arith, ih)

-- the pairs but the one at the place of the key
pub removed : (k : Literal) (ps : List Pair) (i : ℕ) → i < length ps → count_where (has_key k) ps ≤ 1 → ((x : Pair) → is_one (get_or ps i x).key k ≡ true) → remove ps i ≡ without k ps
unfolding without
removed k [] i l d f = absurd (omega (arith, l))
removed k (q ∷ qs) zero l d f =
    let e : is_one q.key k ≡ true = f q in
    let m : 1 + count_where (has_key k) qs ≤ 1 = rw e at d in
    let n : count_where (has_key k) qs ≡ 0 = omega (arith, m) in
    rw e (sym (without_none k qs n))
removed k (q ∷ qs) (suc i) l d f =
    let one = counted_at k qs i (omega arith) f in
    elim (cases_Bool (is_one q.key k)) [
      | inl e ↦ let m : 1 + count_where (has_key k) qs ≤ 1 = rw e at d in absurd (omega (arith, m, one))
      | inr e ↦ let m : 0 + count_where (has_key k) qs ≤ 1 = rw e at d in rw e (ap (λ rs. q ∷ rs) (removed k qs i (omega arith) (omega (arith, m)) f))
    ]

module _ (hash_of : Literal → ℕ) (k : Literal) (ps : List Pair) (c : IsCanonical hash_of (collide ps) 7) where
  rises : IsAscending ps
  unfolding canon canon_over pairs
  rises = let e : ps ≡ ascending ps = ap pairs c.shape in subst IsAscending (sym e) (IsAscending-ascending ps)

  canon_without : canon hash_of (without k (pairs (collide ps))) 7 ≡ collide (without k ps)
  unfolding canon canon_over pairs without
  canon_without = ap collide (ascending_fixed _ (IsAscending-filter (λ q. not (has_key k q)) ps rises))

  pub collided_cut : (i : ℕ) → i < length ps → ((x : Pair) → is_one (get_or ps i x).key k ≡ true) → collide (remove ps i) ≡ canon hash_of (without k (pairs (collide ps))) 7
  unfolding pairs
  collided_cut i l f = ap collide (removed k ps i l (c.distinct k) f) ∙ sym canon_without

pub single : {X : Type 0} (xs : List X) (x : X) → length xs ≡ 1 → x ≡ get_or xs 0 x → xs ≡ x ∷ []
single [] x n e = absurd (omega (arith, n))
single (y ∷ []) x n e = ap (λ z. z ∷ []) (sym e)
single (y ∷ (z ∷ xs)) x n e = absurd (omega (arith, n))
