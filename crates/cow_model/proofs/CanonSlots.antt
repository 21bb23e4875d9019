-- A canonical node by its slots: what find, put and cut of a level rest on.
use Rattle.std.proofs.Common.{◌≡◌, ◌≢◌, ℕ, zero, suc, ◌+◌, ◌-◌, ◌*◌, ◌<◌, ◌≤◌, Bool, true, false, cond, not, ◌&&◌, eqb, ltb, List, [], ◌∷◌, ◌++◌, Option, Some, None, inl, inr, length, refl, sym, ap, ◌∙◌, arith, rules, subst, eqb-true, eq-eqb, ne_eqb, lt-ltb, le-ltb, append-nil, All, get_or}
use Rattle.std.specs.List.{filter}
use Rattle.std.proofs.lemmas.Bool.{cases_Bool, cases_eq, cases_lt, eqb-false}
use Rattle.std.proofs.lemmas.List.Elements.{All-filter, filter_passes}
use mathlib.Core.Path.{fun_ext}
use Rattle.cow_model.specs.declared.plain.Literal.{Literal}
use Rattle.cow_model.specs.declared.value.Pair.{Pair}
use Rattle.cow_model.specs.Canon.{count_where, is_one, is_before, has_key, IsDistinct, Tree, Slot, collide, branch, free, entry, child, spread, pairs, slot_pairs, placed, ascending, digit, group, slot_of, canon_over, canon, IsCanonical, without, get, given, AgreeBelow}
use Rattle.cow_model.proofs.CanonCounts.{count-append, count-filter, count-all, count-agree, filter_none, filter_all, filter-filter, Each, Each-filter, Each-map, count_never, count_none-from, filter_yes, filter_no}
use Rattle.cow_model.proofs.CanonOrder.{eq_means, eq_refl}
use Rattle.cow_model.proofs.CanonShapes.{digit-lt, at_digit, count-canon_over, length-canon_over, canon_over_again, group-canon_over, slot_two}

pub slot_pairs-child : (s : Tree) → slot_pairs (child s) ≡ pairs s
unfolding slot_pairs pairs
slot_pairs-child s = refl

pub slot_pairs-entry : (p : Pair) → slot_pairs (entry p) ≡ p ∷ []
unfolding slot_pairs pairs
slot_pairs-entry p = refl

pub slot_pairs-free : slot_pairs free ≡ []
unfolding slot_pairs pairs
slot_pairs-free = refl

get-entry : (k : Literal) (p : Pair) → get k (slot_pairs (entry p)) ≡ cond (has_key k p) (Some p.value) None
unfolding get slot_pairs pairs
get-entry k p = refl

get-free : (k : Literal) → get k (slot_pairs free) ≡ None
unfolding get slot_pairs pairs
get-free k = refl

-- what a shape has at a digit
abbrev pub slot_in : Tree → ℕ → Slot
slot_in (collide ps) d = free
slot_in (branch at) d = at d

pub count-filter-le : (p q : Pair → Bool) (xs : List Pair) → count_where p (filter q xs) ≤ count_where p xs
count-filter-le p q [] = omega arith
count-filter-le p q (x ∷ xs) =
    let ih = count-filter-le p q xs in
    elim (q x) as (λ b. count_where p (cond b (x ∷ filter q xs) (filter q xs)) ≤ cond (p x) 1 0 + count_where p xs)
    [ true ↦ omega (arith, ih) | false ↦ omega (arith, ih) ]

canon-suc : (hash_of : Literal → ℕ) (ps : List Pair) (level : ℕ) → level < 7 → canon hash_of ps level ≡ canon_over hash_of (suc (7 - suc level)) level ps
unfolding canon
canon-suc hash_of ps level h =
    let a : 7 - level ≡ suc (7 - suc level) = omega arith in
    rw a refl

slot_in-canon_over : (hash_of : Literal → ℕ) (n level : ℕ) (ps : List Pair) (d : ℕ) → slot_in (canon_over hash_of (suc n) level ps) d ≡ slot_of hash_of (canon_over hash_of n (suc level)) (group hash_of level d ps)
unfolding canon_over
slot_in-canon_over hash_of n level ps d = refl

pub slot_of_child : (hash_of : Literal → ℕ) (below : List Pair → Tree) (ps : List Pair) (s : Tree) → child s ≡ slot_of hash_of below ps → (2 ≤ length ps) × (s ≡ below ps)
unfolding slot_of
slot_of_child hash_of below [] s g = absurd (cc)
slot_of_child hash_of below (p ∷ []) s g = absurd (cc)
slot_of_child hash_of below (p ∷ (q ∷ ps)) s g = (omega arith, cc)

pub count-group-le : (hash_of : Literal → ℕ) (t : Pair → Bool) (level d : ℕ) (ps : List Pair) → count_where t (group hash_of level d ps) ≤ count_where t ps
unfolding group
count-group-le hash_of t level d ps = count-filter-le t (at_digit hash_of level d) ps

-- the pairs of a key's digit have all that the key has
pub get-group : (hash_of : Literal → ℕ) (level : ℕ) (k : Literal) (ps : List Pair) → get k (group hash_of level (digit (hash_of k) level) ps) ≡ get k ps
unfolding get group
get-group hash_of level k [] = refl
get-group hash_of level k (p ∷ ps) =
    let ih = get-group hash_of level k ps in
    elim (cases_Bool (at_digit hash_of level (digit (hash_of k) level) p)) [
      | inl e ↦ rw e (ap (λ o. cond (has_key k p) (Some p.value) o) ih)
      | inr e ↦
          let f : has_key k p ≡ false = elim (cases_Bool (has_key k p)) [ inl g ↦ absurd (eqb-false _ _ e (ap (λ j. digit (hash_of j) level) (eq_means _ _ g))) | inr g ↦ g ] in
          rw (e, f) ih
    ]

pub AgreeBelow-group : (hash_of : Literal → ℕ) (level next : ℕ) → next ≡ level + 1 → (hash : ℕ) (ps : List Pair) → AgreeBelow hash_of level hash ps → AgreeBelow hash_of next hash (group hash_of level (digit hash level) ps)
unfolding group
AgreeBelow-group hash_of level next e hash ps a l h =
    let test : Pair → Bool = at_digit hash_of level (digit hash level) in
    elim (cases_lt l level) [
      | inl x ↦ All-filter test (λ p. digit (hash_of p.key) l ≡ digit hash l) ps (a l x)
      | inr x ↦ λ k d m.
          let same : level ≡ l = omega arith in
          subst (λ j. digit (hash_of (get_or (filter test ps) k d).key) j ≡ digit hash j) same (eqb-true _ _ (filter_passes test ps k d m))
    ]

pub group-given_same : (hash_of : Literal → ℕ) (level : ℕ) (k v : Literal) (ps : List Pair) → group hash_of level (digit (hash_of k) level) (given k v ps) ≡ given k v (group hash_of level (digit (hash_of k) level) ps)
unfolding group without
group-given_same hash_of level k v ps =
    let d = digit (hash_of k) level in
    rw (eq-eqb d d refl) (ap (λ qs. record { key = k; value = v } ∷ qs) (filter-filter (at_digit hash_of level d) (λ q. not (has_key k q)) ps))

pub group-given_other : (hash_of : Literal → ℕ) (level d : ℕ) (k v : Literal) (ps : List Pair) → d ≢ digit (hash_of k) level → group hash_of level d (given k v ps) ≡ group hash_of level d ps
unfolding group without
group-given_other hash_of level d k v ps h =
    rw (ne_eqb (digit (hash_of k) level) d (λ e. h (sym e)))
    (filter-filter (at_digit hash_of level d) (λ q. not (has_key k q)) ps
    ∙ filter_all (λ q. not (has_key k q)) (filter (at_digit hash_of level d) ps)
    (count-filter (λ q. not (not (has_key k q))) (at_digit hash_of level d) ps
    ∙ count_never (λ p. at_digit hash_of level d p && not (not (has_key k p))) (λ p. elim (cases_Bool (at_digit hash_of level d p)) [
      | inl e ↦
          let f : has_key k p ≡ false = elim (cases_Bool (has_key k p)) [ inl g ↦ absurd (h (sym (eqb-true _ _ e) ∙ ap (λ j. digit (hash_of j) level) (eq_means _ _ g))) | inr g ↦ g ] in
          rw (e, f) refl
      | inr e ↦ rw e refl
    ]) ps))

pub length-without : (k : Literal) (ps : List Pair) → length (without k ps) + count_where (has_key k) ps ≡ length ps
unfolding without
length-without k [] = refl
length-without k (p ∷ ps) =
    let ih = length-without k ps in
    elim (has_key k p) as (λ b. length (cond (not b) (p ∷ filter (λ q. not (has_key k q)) ps) (filter (λ q. not (has_key k q)) ps)) + (cond b 1 0 + count_where (has_key k) ps) ≡ suc (length ps))
    [ true ↦ omega (arith, ih) | false ↦ omega (arith, ih) ]

pub length-given : (k v : Literal) (ps : List Pair) → IsDistinct ps → length ps ≤ length (given k v ps)
length-given k v ps h = omega (arith, length-without k ps, h k)

module _ (hash_of : Literal → ℕ) where
  pub canon-branch : (ps : List Pair) (level next : ℕ) → next ≡ level + 1 → next ≤ 7 → canon hash_of ps level ≡ branch (λ d. slot_of hash_of (λ qs. canon hash_of qs next) (group hash_of level d ps))
  unfolding canon canon_over
  canon-branch ps level next e h =
      let a : 7 - level ≡ suc (7 - suc level) = omega arith in
      let b : next ≡ suc level = omega arith in
      rw (b, a) refl

  pub count-canon : (t : Pair → Bool) (ps : List Pair) (level : ℕ) → count_where t (pairs (canon hash_of ps level)) ≡ count_where t ps
  unfolding canon
  count-canon t ps level = count-canon_over hash_of t (7 - level) level ps

  pub length-canon : (ps : List Pair) (level : ℕ) → length (pairs (canon hash_of ps level)) ≡ length ps
  unfolding canon
  length-canon ps level = length-canon_over hash_of (7 - level) level ps

  -- the canonical shape of distinct keys is canonical
  pub IsCanonical-canon : (ps : List Pair) (level : ℕ) → IsDistinct ps → IsCanonical hash_of (canon hash_of ps level) level
  unfolding canon
  IsCanonical-canon ps level h = record {
    distinct = λ k. omega (arith, h k, count-canon (has_key k) ps level);
    shape = sym (canon_over_again hash_of (7 - level) level ps);
  }

  pub IsDistinct-given : (k v : Literal) (ps : List Pair) → IsDistinct ps → IsDistinct (given k v ps)
  unfolding without
  IsDistinct-given k v ps h k' =
      elim (cases_Bool (is_one k k')) [
        | inl e ↦ rw e
            (let z : count_where (has_key k) (filter (λ q. not (has_key k q)) ps) ≡ 0 =
            count-filter (has_key k) (λ q. not (has_key k q)) ps
            ∙ count_never _ (λ q. elim (has_key k q) as (λ b. (not b && b) ≡ false) [ true ↦ refl | false ↦ refl ]) ps in
            subst (λ j. 1 + count_where (has_key j) (filter (λ q. not (has_key k q)) ps) ≤ 1) (eq_means k k' e) (omega (arith, z)))
        | inr e ↦ rw e (omega (arith, h k', count-filter-le (has_key k') (λ q. not (has_key k q)) ps))
      ]

  module _ (at : ℕ → Slot) (level next : ℕ) (e : next ≡ level + 1) (h : next ≤ 7) (c : IsCanonical hash_of (branch at) level) where
    pub at_is : (d : ℕ) → at d ≡ slot_of hash_of (λ qs. canon hash_of qs next) (group hash_of level d (pairs (branch at)))
    at_is d = ap (λ s. slot_in s d) (c.shape ∙ canon-branch (pairs (branch at)) level next e h)

    pub group_is : (d : ℕ) → d < 32 → group hash_of level d (pairs (branch at)) ≡ slot_pairs (at d)
    group_is d k =
        let n : ℕ = 7 - suc level in
        let s : branch at ≡ canon_over hash_of (suc n) level (pairs (branch at)) = c.shape ∙ canon-suc hash_of (pairs (branch at)) level (omega arith) in
        ap (λ t. group hash_of level d (pairs t)) s ∙ group-canon_over hash_of n level d (pairs (branch at)) k ∙ ap slot_pairs (sym (ap (λ t. slot_in t d) s ∙ slot_in-canon_over hash_of n level (pairs (branch at)) d))

    pub at_again : (d : ℕ) → d < 32 → at d ≡ slot_of hash_of (λ qs. canon hash_of qs next) (slot_pairs (at d))
    at_again d k = at_is d ∙ ap (slot_of hash_of (λ qs. canon hash_of qs next)) (group_is d k)

    -- a child has at least two pairs, and is canonical one level below
    child_of : (d : ℕ) → d < 32 → (s : Tree) → at d ≡ child s → (2 ≤ length (pairs s)) × (s ≡ canon hash_of (pairs s) next)
    child_of d k s f =
        slot_of_child hash_of (λ qs. canon hash_of qs next) (pairs s) s
        (sym f ∙ at_again d k ∙ ap (λ t. slot_of hash_of (λ qs. canon hash_of qs next) (slot_pairs t)) f ∙ ap (slot_of hash_of (λ qs. canon hash_of qs next)) (slot_pairs-child s))

    pub child_long : (d : ℕ) → d < 32 → (s : Tree) → at d ≡ child s → 2 ≤ length (pairs s)
    child_long d k s f = (child_of d k s f).0

    pub child_group : (d : ℕ) → d < 32 → (s : Tree) → at d ≡ child s → group hash_of level d (pairs (branch at)) ≡ pairs s
    child_group d k s f = group_is d k ∙ ap slot_pairs f ∙ slot_pairs-child s

    pub child_canonical : (d : ℕ) → d < 32 → (s : Tree) → at d ≡ child s → IsCanonical hash_of s next
    child_canonical d k s f = record {
      distinct = λ j.
          let a = count-group-le hash_of (has_key j) level d (pairs (branch at)) in
          let b : count_where (has_key j) (group hash_of level d (pairs (branch at))) ≡ count_where (has_key j) (pairs s) = ap (count_where (has_key j)) (child_group d k s f) in
          omega (arith, a, b, c.distinct j);
      shape = (child_of d k s f).1;
    }

    -- a key is looked up at its digit
    pub get_at : (k : Literal) → get k (pairs (branch at)) ≡ get k (slot_pairs (at (digit (hash_of k) level)))
    get_at k =
        let d = digit (hash_of k) level in
        sym (get-group hash_of level k (pairs (branch at))) ∙ ap (get k) (group_is d (digit-lt (hash_of k) level))

    get_in : (k : Literal) (d : ℕ) → d ≡ digit (hash_of k) level → get k (pairs (branch at)) ≡ get k (slot_pairs (at d))
    get_in k d f = get_at k ∙ ap (λ x. get k (slot_pairs (at x))) (sym f)

    pub get_entry : (k : Literal) (d : ℕ) → d ≡ digit (hash_of k) level → (p : Pair) → at d ≡ entry p → get k (pairs (branch at)) ≡ cond (has_key k p) (Some p.value) None
    get_entry k d f p g = get_in k d f ∙ ap (λ t. get k (slot_pairs t)) g ∙ get-entry k p

    pub get_free : (k : Literal) (d : ℕ) → d ≡ digit (hash_of k) level → at d ≡ free → get k (pairs (branch at)) ≡ None
    get_free k d f g = get_in k d f ∙ ap (λ t. get k (slot_pairs t)) g ∙ get-free k

    pub get_child : (k : Literal) (d : ℕ) → d ≡ digit (hash_of k) level → (s : Tree) → at d ≡ child s → get k (pairs (branch at)) ≡ get k (pairs s)
    get_child k d f s g = get_in k d f ∙ ap (λ t. get k (slot_pairs t)) g ∙ ap (get k) (slot_pairs-child s)

    -- the hashes of a child's pairs agree on one level more
    pub child_agrees : (hash : ℕ) → AgreeBelow hash_of level hash (pairs (branch at)) → (s : Tree) → at (digit hash level) ≡ child s → AgreeBelow hash_of next hash (pairs s)
    child_agrees hash a s f = subst (AgreeBelow hash_of next hash) (child_group (digit hash level) (digit-lt hash level) s f) (AgreeBelow-group hash_of level next e hash (pairs (branch at)) a)

    -- one slot changes
    pub given_at : (k v : Literal) (at' : ℕ → Slot) → ((d : ℕ) → d ≢ digit (hash_of k) level → at' d ≡ at d) → at' (digit (hash_of k) level) ≡ slot_of hash_of (λ qs. canon hash_of qs next) (given k v (slot_pairs (at (digit (hash_of k) level)))) → branch at' ≡ canon hash_of (given k v (pairs (branch at))) level
    given_at k v at' other here =
        let d' = digit (hash_of k) level in
        let below : List Pair → Tree = λ qs. canon hash_of qs next in
        ap branch (fun_ext (λ d. elim (cases_eq d d') [
          | inl q ↦ subst (λ x. at' x ≡ slot_of hash_of below (group hash_of level x (given k v (pairs (branch at))))) (sym q)
              (here ∙ ap (λ ps. slot_of hash_of below (given k v ps)) (sym (group_is d' (digit-lt (hash_of k) level))) ∙ ap (slot_of hash_of below) (sym (group-given_same hash_of level k v (pairs (branch at)))))
          | inr q ↦ other d q ∙ at_is d ∙ ap (slot_of hash_of below) (sym (group-given_other hash_of level d k v (pairs (branch at)) q))
        ]))
        ∙ sym (canon-branch (given k v (pairs (branch at))) level next e h)

  -- the slot of a digit after its key was given a value
  pub given_free : (below : List Pair → Tree) (k v : Literal) → slot_of hash_of below (given k v (slot_pairs free)) ≡ entry (record { key = k; value = v })
  unfolding slot_of slot_pairs pairs without
  given_free below k v = refl

  pub given_same : (below : List Pair → Tree) (k v : Literal) (q : Pair) → is_one q.key k ≡ true → slot_of hash_of below (given k v (slot_pairs (entry q))) ≡ entry (record { key = k; value = v })
  unfolding slot_of slot_pairs pairs without
  given_same below k v q h = rw h refl

  pub given_two : (below : List Pair → Tree) (k v : Literal) (q : Pair) → is_one q.key k ≡ false → slot_of hash_of below (given k v (slot_pairs (entry q))) ≡ child (below (record { key = k; value = v } ∷ q ∷ []))
  unfolding slot_of slot_pairs pairs without
  given_two below k v q h = rw h refl

  pub given_child : (below : List Pair → Tree) (k v : Literal) (s : Tree) → 2 ≤ length (pairs s) → IsDistinct (pairs s) → slot_of hash_of below (given k v (slot_pairs (child s))) ≡ child (below (given k v (pairs s)))
  given_child below k v s h distinct =
      ap (λ ps. slot_of hash_of below (given k v ps)) (slot_pairs-child s) ∙ slot_two hash_of below (given k v (pairs s)) (let l = length-given k v (pairs s) distinct in omega (arith, l))

  -- the four ways in which a key is given a value, by what stands at its digit
  module _ (at : ℕ → Slot) (level next : ℕ) (e : next ≡ level + 1) (h : next ≤ 7) (c : IsCanonical hash_of (branch at) level) (k v : Literal) (d : ℕ) (here : d ≡ digit (hash_of k) level) (at' : ℕ → Slot) (others : (x : ℕ) → x ≢ d → at' x ≡ at x) where
    given_here : at' d ≡ slot_of hash_of (λ qs. canon hash_of qs next) (given k v (slot_pairs (at d))) → branch at' ≡ canon hash_of (given k v (pairs (branch at))) level
    given_here q =
        given_at at level next e h c k v at' (λ x ne. others x (λ y. ne (y ∙ here)))
        (subst (λ x. at' x ≡ slot_of hash_of (λ qs. canon hash_of qs next) (given k v (slot_pairs (at x)))) here q)

    below_32 : d < 32
    below_32 = subst (λ x. x < 32) (sym here) (digit-lt (hash_of k) level)

    pub given_at_free : at d ≡ free → at' d ≡ entry (record { key = k; value = v }) → branch at' ≡ canon hash_of (given k v (pairs (branch at))) level
    given_at_free f g = given_here (g ∙ sym (ap (λ t. slot_of hash_of (λ qs. canon hash_of qs next) (given k v (slot_pairs t))) f ∙ given_free (λ qs. canon hash_of qs next) k v))

    pub given_at_same : (q : Pair) → at d ≡ entry q → is_one q.key k ≡ true → at' d ≡ entry (record { key = q.key; value = v }) → branch at' ≡ canon hash_of (given k v (pairs (branch at))) level
    given_at_same q f m g =
        given_here (g ∙ ap (λ x. entry (record { key = x; value = v })) (eq_means q.key k m)
        ∙ sym (ap (λ t. slot_of hash_of (λ qs. canon hash_of qs next) (given k v (slot_pairs t))) f ∙ given_same (λ qs. canon hash_of qs next) k v q m))

    pub given_at_two : (q : Pair) → at d ≡ entry q → is_one q.key k ≡ false → (s : Tree) → s ≡ canon hash_of (record { key = k; value = v } ∷ q ∷ []) next → at' d ≡ child s → branch at' ≡ canon hash_of (given k v (pairs (branch at))) level
    given_at_two q f m s n g =
        given_here (g ∙ ap child n ∙ sym (ap (λ t. slot_of hash_of (λ qs. canon hash_of qs next) (given k v (slot_pairs t))) f ∙ given_two (λ qs. canon hash_of qs next) k v q m))

    pub given_at_child : (s : Tree) → at d ≡ child s → (s' : Tree) → s' ≡ canon hash_of (given k v (pairs s)) next → at' d ≡ child s' → branch at' ≡ canon hash_of (given k v (pairs (branch at))) level
    given_at_child s f s' n g =
        given_here (g ∙ ap child n ∙ sym (ap (λ t. slot_of hash_of (λ qs. canon hash_of qs next) (given k v (slot_pairs t))) f
        ∙ given_child (λ qs. canon hash_of qs next) k v s (child_long at level next e h c d below_32 s f) (child_canonical at level next e h c d below_32 s f).distinct))

-- a node with the same slots
pub same_branch : (at at' : ℕ → Slot) (d : ℕ) → at' d ≡ at d → ((x : ℕ) → x ≢ d → at' x ≡ at x) → branch at' ≡ branch at
same_branch at at' d h others = ap branch (fun_ext (λ x. elim (cases_eq x d) [ inl e ↦ subst (λ y. at' y ≡ at y) (sym e) h | inr ne ↦ others x ne ]))
