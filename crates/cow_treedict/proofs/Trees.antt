-- The pairs of a canonical shape, as the map that they stand for.
use Rattle.std.proofs.Common.{◌≡◌, ℕ, ◌+◌, ◌-◌, ◌*◌, ◌≤◌, length, map, List, [], ◌∷◌, Bool, true, false, not, ◌&&◌, ◌||◌, cond, eqb, IsPermutation, Option, Some, None, refl, sym, ap, ◌∙◌, subst, arith}
use Rattle.std.specs.Prelude.{is_some, is_none, option_map, count_by}
use Rattle.std.specs.List.{list_all}
use Rattle.std.specs.List.Sorted.{IsSortedBy}
use Rattle.std.proofs.lemmas.Bool.{true≢false}
use Rattle.std.proofs.lemmas.List.Sums.{sum_by-cons}
use Rattle.std.proofs.lemmas.List.Sorted.{IsPermutation-map, IsPermutation-refl}
use Rattle.cow_model.proofs.Ascending.{on_side}
use Rattle.cow_model.proofs.CanonOrder.{eq_means, eq_refl}
use Rattle.cow_model.proofs.CanonSlots.{length-without, count-canon, length-canon, IsCanonical-canon, IsDistinct-given}
use Rattle.std.proofs.lemmas.List.{nil_from_length}
use Rattle.cow_model.specs.Canon.{is_one, has_key, count_where, IsDistinct, without, get, given, canon, pairs, Tree, IsCanonical}
use Rattle.cow_model.specs.Members.{member, ascending}
use Rattle.cow_model.specs.Order.{same}
use Rattle.cow_model.specs.Pairs.{in_order, value_in, put}
use Rattle.cow_champ.specs.Spending.{Spends, put_need}
use Rattle.cow_model.specs.Purse.{Purse, unit_if}
use Rattle.cow_model.specs.declared.plain.Literal.{Literal}
use Rattle.cow_model.specs.declared.value.Pair.{Pair}
use Rattle.cow_members.proofs.Ascents.{count_by-ascending, same-is, itself, member-same}
use Rattle.cow_members.specs.Ascents.{Ascends}
use Rattle.cow_members.specs.Sets.{lacking}
use Rattle.cow_set.proofs.Sorted.{before, sorted-ascends}
use Rattle.cow_dict.specs.Dictionaries.{has, holds}
use Rattle.cow_dict.specs.Storages.{pair_of, keys, by_key}
use Rattle.cow_dict.proofs.Maps.{Distinct, choice, distinct-more, distinct-ascending, keys-tail, keys-by_key, ascends-by_key, value-here, value-past, value-cons, value-by_key, else-same, map-put, has-member, member-value, length-by_key}
use Rattle.cow_dict.proofs.Questions.{sorted-map, equal-by, equal-back}
use Rattle.cow_dict.proofs.Sides.{sum-by_key}
use Rattle.cow_treedict.specs.Trees.{alike, on_path}

-- what a test counts
abbrev pub one_if : Bool → ℕ
one_if b = cond b 1 0

-- ---- keys that are one
pub is-same : (a b : Literal) → is_one a b ≡ same b a
unfolding is_one
is-same a b = on_side (same a b)
    (λ e. let z = same-is a b e in e ∙ sym (subst (λ c. same c a ≡ true) z (itself a)))
    (λ e. on_side (same b a)
    (λ f. let z = same-is b a f in absurd (true≢false (sym (subst (λ c. same c b ≡ true) z (itself b)) ∙ e)))
    (λ f. e ∙ sym f))

pub get-value : (k : Literal) (ps : List Pair) → get k ps ≡ value_in k ps
unfolding get
get-value k [] = refl
get-value k (p ∷ ps) = ap (λ b. choice b (Some p.value) (get k ps)) (is-same p.key k) ∙ ap (λ o. choice (same k p.key) (Some p.value) o) (get-value k ps) ∙ sym (value-cons k p ps)

-- ---- distinct keys
pub none-member : (k : Literal) (ps : List Pair) → count_where (has_key k) ps ≡ 0 → member k (keys ps) ≡ false
none-member k [] h = refl
none-member k (p ∷ ps) h = on_side (same k p.key)
    (λ e. let z : one_if (has_key k p) ≡ 1 = ap one_if (is-same p.key k ∙ e) in absurd (omega (arith, z, h)))
    (λ e. ap (λ b. b || member k (keys ps)) e ∙ none-member k ps (omega (arith, h)))

pub distinct-map : (ps : List Pair) → IsDistinct ps → Distinct ps
distinct-map [] h = tt
distinct-map (p ∷ ps) h =
    let z : one_if (has_key p.key p) ≡ 1 = ap one_if (eq_refl p.key) in
    let one = h p.key in
    distinct-more p ps (distinct-map ps (λ k. let q = h k in omega (arith, q))) (none-member p.key ps (omega (arith, z, one)))

-- ---- lists of distinct keys with the same counts
abbrev hit : Literal → Literal → Pair → Bool
hit q v p = same q p.key && same v p.value

hit-none : (q v : Literal) (ps : List Pair) → member q (keys ps) ≡ false → count_where (hit q v) ps ≡ 0
hit-none q v [] m = refl
hit-none q v (p ∷ ps) m = on_side (same q p.key)
    (λ e. absurd (true≢false (sym (ap (λ b. b || member q (keys ps)) e) ∙ m)))
    (λ e. let z : one_if (hit q v p) ≡ 0 = ap (λ b. one_if (b && same v p.value)) e in
    omega (arith, z, hit-none q v ps (sym (ap (λ b. b || member q (keys ps)) e) ∙ m)))

value-counted : (q v : Literal) (ps : List Pair) → Distinct ps → 1 ≤ count_where (hit q v) ps → value_in q ps ≡ Some v
value-counted q v [] d h = absurd (omega (arith, h))
value-counted q v (p ∷ ps) d h =
    let t = keys-tail p.key (keys ps) d in
    on_side (same q p.key)
    (λ e. on_side (same v p.value)
    (λ f. value-here q p ps e ∙ ap (λ (z : Literal). Some z) (sym (same-is v p.value f)))
    (λ f. let z : one_if (hit q v p) ≡ 0 = ap (λ b. one_if (b && same v p.value)) e ∙ ap one_if f in
    absurd (omega (arith, z, h, hit-none q v ps (member-same q p.key (keys ps) e ∙ t.0)))))
    (λ e. let z : one_if (hit q v p) ≡ 0 = ap (λ b. one_if (b && same v p.value)) e in
    value-past q p ps e ∙ value-counted q v ps t.1 (omega (arith, z, h)))

counted-value : (q v : Literal) (ps : List Pair) → value_in q ps ≡ Some v → 1 ≤ count_where (hit q v) ps
counted-value q v [] h = cc
counted-value q v (p ∷ ps) h = on_side (same q p.key)
    (λ e. let z : Some p.value ≡ Some v = sym (value-here q p ps e) ∙ h in
    let w : p.value ≡ v = cc in
    let y : one_if (hit q v p) ≡ 1 = ap (λ b. one_if (b && same v p.value)) e ∙ ap (λ x. one_if (same v x)) w ∙ ap one_if (itself v) in
    omega (arith, y))
    (λ e. let ih = counted-value q v ps (sym (value-past q p ps e) ∙ h) in omega (arith, ih))

module _ (xs ys : List Pair) (d : Distinct xs) (e : Distinct ys) (h : (t : Pair → Bool) → count_where t ys ≡ count_where t xs) (q : Literal) where
  not-there : value_in q xs ≡ None → (o : Option Literal) → value_in q ys ≡ o → o ≡ None
  not-there f None g = refl
  not-there f (Some v) g =
      let there : value_in q xs ≡ Some v = value-counted q v xs d (let n = counted-value q v ys g in let m = h (hit q v) in omega (arith, n, m)) in
      let z : Some v ≡ None = sym there ∙ f in
      cc

  alike-by : (o : Option Literal) → value_in q xs ≡ o → value_in q ys ≡ o
  alike-by None f = not-there f (value_in q ys) refl
  alike-by (Some v) f = value-counted q v ys e (let n = counted-value q v xs f in let m = h (hit q v) in omega (arith, n, m))

  pub value-alike : value_in q ys ≡ value_in q xs
  value-alike = alike-by (value_in q xs) refl

-- ---- a key is given a value
pub value-without : (k q : Literal) (ps : List Pair) → same q k ≡ false → value_in q (without k ps) ≡ value_in q ps
unfolding without
value-without k q [] e = refl
value-without k q (p ∷ ps) e =
    let ih = value-without k q ps e in
    on_side (is_one p.key k)
    (λ f. ap (λ b. value_in q (cond (not b) (p ∷ without k ps) (without k ps))) f ∙ ih ∙ sym (value-past q p ps (ap (same q) (eq_means p.key k f) ∙ e)))
    (λ f. ap (λ b. value_in q (cond (not b) (p ∷ without k ps) (without k ps))) f ∙ value-cons q p (without k ps) ∙ ap (λ o. choice (same q p.key) (Some p.value) o) ih ∙ sym (value-cons q p ps))

value-given : (k v q : Literal) (ps : List Pair) → value_in q (given k v ps) ≡ choice (same q k) (Some v) (value_in q ps)
value-given k v q ps = value-cons q (pair_of k v) (without k ps) ∙ else-same (same q k) (Some v) (value_in q (without k ps)) (value_in q ps) (λ e. value-without k q ps e)

count-none : (k : Literal) (ps : List Pair) → is_some (get k ps) ≡ false → count_where (has_key k) ps ≡ 0
unfolding get
count-none k [] h = refl
count-none k (p ∷ ps) h = on_side (has_key k p)
    (λ e. absurd (true≢false (sym (ap (λ b. is_some (choice b (Some p.value) (get k ps))) e) ∙ h)))
    (λ e. let z : one_if (has_key k p) ≡ 0 = ap one_if e in
    let ih = count-none k ps (sym (ap (λ b. is_some (choice b (Some p.value) (get k ps))) e) ∙ h) in
    omega (arith, z, ih))

count-some : (k : Literal) (ps : List Pair) → is_some (get k ps) ≡ true → 1 ≤ count_where (has_key k) ps
unfolding get
count-some k [] h = absurd (true≢false (sym h))
count-some k (p ∷ ps) h = on_side (has_key k p)
    (λ e. let z : one_if (has_key k p) ≡ 1 = ap one_if e in omega (arith, z))
    (λ e. let ih = count-some k ps (sym (ap (λ b. is_some (choice b (Some p.value) (get k ps))) e) ∙ h) in omega (arith, ih))

module _ (hash_of : Literal → ℕ) (level : ℕ) (k v : Literal) (ps : List Pair) (d : IsDistinct ps) where
  -- the map in which the pair is put
  pub map-given : by_key (pairs (canon hash_of (given k v ps) level)) ≡ put in_order (by_key ps) (pair_of k v)
  map-given =
      let zs = pairs (canon hash_of (given k v ps) level) in
      let g : IsDistinct (given k v ps) = IsDistinct-given hash_of k v ps d in
      let c = IsCanonical-canon hash_of (given k v ps) level g in
      map-put ps zs (pair_of k v) (distinct-map ps d) (distinct-map zs c.distinct)
      (λ q. value-alike (given k v ps) zs (distinct-map (given k v ps) g) (distinct-map zs c.distinct) (λ t. count-canon hash_of t (given k v ps) level) q ∙ value-given k v q ps)

  -- one pair more, where the key was not there
  pub size-more : is_some (get k ps) ≡ false → length (pairs (canon hash_of (given k v ps) level)) ≡ length ps + 1
  size-more n =
      let a = length-canon hash_of (given k v ps) level in
      let b = length-without k ps in
      let z = count-none k ps n in
      omega (arith, a, b, z)

  pub size-same : is_some (get k ps) ≡ true → length (pairs (canon hash_of (given k v ps) level)) ≡ length ps
  size-same n =
      let a = length-canon hash_of (given k v ps) level in
      let b = length-without k ps in
      let z = count-some k ps n in
      let one = d k in
      omega (arith, a, b, z, one)

  -- the count after it, by what stood there
  pub size-put : (o : Option Literal) → o ≡ get k ps → (s : Tree) → s ≡ canon hash_of (given k v ps) level → length ps + unit_if (is_none o) ≡ length (pairs s)
  size-put None e s f = let n = size-more (ap is_some (sym e)) in let m = ap (λ t. length (pairs t)) f in omega (arith, n, m)
  size-put (Some x) e s f = let n = size-same (ap is_some (sym e)) in let m = ap (λ t. length (pairs t)) f in omega (arith, n, m)

pub none-map : {X Y : Type 0} (f : X → Y) (o : Option X) → is_none (option_map f o) ≡ is_none o
none-map f None = refl
none-map f (Some x) = refl

pub some-map : {X Y : Type 0} (f : X → Y) (o : Option X) → is_some (option_map f o) ≡ is_some o
some-map f None = refl
some-map f (Some x) = refl

pub newly-few : (b : Bool) → unit_if b ≤ 1
newly-few true = omega arith
newly-few false = omega arith

-- ---- no pairs
module _ (hash_of : Literal → ℕ) (level : ℕ) (s : Tree) (e : s ≡ canon hash_of [] level) where
  pub empty-size : 0 ≡ length (pairs s)
  empty-size = sym (ap (λ t. length (pairs t)) e ∙ length-canon hash_of [] level)

  pub empty-canonical : IsCanonical hash_of s level
  empty-canonical = subst (λ t. IsCanonical hash_of t level) (sym e) (IsCanonical-canon hash_of [] level (λ k. omega arith))

  pub empty-map : by_key (pairs s) ≡ []
  empty-map = ap by_key (nil_from_length (pairs s) (sym empty-size))

-- ---- what is asked of a map
pub get-map : (a : Literal) (ps : List Pair) → IsDistinct ps → get a ps ≡ value_in a (by_key ps)
get-map a ps d = get-value a ps ∙ sym (value-by_key ps (distinct-map ps d) a)

pub ascends-map : (ps : List Pair) → IsDistinct ps → Ascends (keys (by_key ps))
ascends-map ps d = ascends-by_key ps (distinct-map ps d)

pub has-value : (a : Literal) (v : List Pair) → is_some (value_in a v) ≡ has a v
has-value a v = sym (member-value a v) ∙ sym (has-member a v)

count-by : (t : Pair → Bool) (ps : List Pair) → count_by t ps ≡ count_where t ps
count-by t [] = refl
count-by t (p ∷ ps) = sum_by-cons (λ x. cond (t x) 1 0) p ps ∙ ap (λ n. cond (t p) 1 0 + n) (count-by t ps)

pub alike-map : (hash_of : Literal → ℕ) (hash : ℕ) (ps : List Pair) → alike hash_of hash (by_key ps) ≡ count_where (λ p. eqb (hash_of p.key) hash) ps
alike-map hash_of hash ps = sum-by_key (λ p. cond (eqb (hash_of p.key) hash) 1 0) ps ∙ count-by (λ p. eqb (hash_of p.key) hash) ps

-- how many keys another map lacks
pub few-pass : (t : Pair → Bool) (ps : List Pair) → count_where t ps ≤ length ps
few-pass t [] = omega arith
few-pass t (p ∷ ps) = omega (arith, newly-few (t p), few-pass t ps)

lacks-count : (v ps : List Pair) → count_where (λ p. not (has p.key v)) ps ≡ count_by (λ a. not (member a (keys v))) (keys ps)
lacks-count v [] = refl
lacks-count v (p ∷ ps) =
    ap (λ b. cond (not b) 1 0 + count_where (λ q. not (has q.key v)) ps) (has-member p.key v)
    ∙ ap (λ n. cond (not (member p.key (keys v))) 1 0 + n) (lacks-count v ps)
    ∙ sym (sum_by-cons (λ a. cond (not (member a (keys v))) 1 0) p.key (keys ps))

pub lacking-map : (v ps : List Pair) → count_where (λ p. not (has p.key v)) ps ≡ lacking (keys v) (keys (by_key ps))
lacking-map v ps =
    lacks-count v ps ∙ sym (count_by-ascending (λ a. not (member a (keys v))) (keys ps)) ∙ ap (lacking (keys v)) (sym (keys-by_key ps))

pub all-of-keys : (t : Literal → Bool) (ps : List Pair) → list_all (λ p. t p.key) ps ≡ list_all t (keys ps)
all-of-keys t [] = refl
all-of-keys t (p ∷ ps) = ap (λ b. t p.key && b) (all-of-keys t ps)

-- a list by ascending key is its own
pub own-map : (v : List Pair) → Ascends (keys v) → v ≡ by_key v
own-map v s = sorted-map v v (distinct-ascending v s) (IsPermutation-refl v) s

pub equal-maps : (v rs : List Pair) → Ascends (keys v) → Distinct rs → length v ≡ length rs → list_all (holds v) rs ≡ true → v ≡ by_key rs
equal-maps v rs s d n all = own-map v s ∙ equal-by v rs (distinct-ascending v s) d n all

pub maps-equal : (v rs : List Pair) → Ascends (keys v) → Distinct rs → v ≡ by_key rs → list_all (holds v) rs ≡ true
maps-equal v rs s d e = equal-back v rs (distinct-ascending v s) d (sym (own-map v s) ∙ e)

-- ---- references in the order of their keys, which `seen` reads
module _ {R : Type 0} (seen : R → Pair) where
  abbrev pub first : R → Literal
  first r = (seen r).key

  keys-seen : (rs : List R) → keys (map seen rs) ≡ map first rs
  keys-seen [] = refl
  keys-seen (r ∷ rs) = ap (λ l. first r ∷ l) (keys-seen rs)

  pub seen-sorted : (rs ss : List R) (v : List Pair) → by_key (map seen rs) ≡ v → Ascends (keys v) → IsPermutation rs ss → IsSortedBy (before first) ss → map seen ss ≡ v
  seen-sorted rs ss v e s h up =
      let apart : Distinct (map seen rs) = subst Ascends (keys-by_key (map seen rs)) (subst (λ l. Ascends (keys l)) (sym e) s) in
      let up_keys : Ascends (keys (map seen ss)) = subst Ascends (ap ascending (keys-seen rs) ∙ sym (sorted-ascends first rs ss h up) ∙ sym (keys-seen ss)) apart in
      sorted-map (map seen rs) (map seen ss) apart (IsPermutation-map seen rs ss h) up_keys ∙ e

-- ---- what a change of the root costs
pub long : (ps v : List Pair) → by_key ps ≡ v → length v ≡ length ps
long ps v e = sym (ap length e) ∙ length-by_key ps

pub spends-map : (w level : ℕ) (ps v : List Pair) (h k : Purse) → by_key ps ≡ v → level ≡ 0 → Spends (put_need level (length ps)) (w * length ps) h k → Spends (put_need 0 (length v)) (w * length v) h k
spends-map w level ps v h k e z s = subst (λ x. Spends (put_need 0 x) (w * x) h k) (sym (long ps v e)) (subst (λ l. Spends (put_need l (length ps)) (w * length ps) h k) z s)

pub copies-map : (hash_of : Literal → ℕ) (w level hash : ℕ) (a : Literal) (ps v : List Pair) (h k : Purse) → by_key ps ≡ v → level ≡ 0 → hash ≡ hash_of a → k.copied ≤ h.copied + w * (32 * (7 - level) + count_where (λ p. eqb (hash_of p.key) hash) ps) → k.copied ≤ h.copied + w * on_path hash_of a v
copies-map hash_of w level hash a ps v h k e z is s =
    let f : alike hash_of (hash_of a) v ≡ count_where (λ p. eqb (hash_of p.key) hash) ps = ap (alike hash_of (hash_of a)) (sym e) ∙ ap (λ x. alike hash_of x (by_key ps)) (sym is) ∙ alike-map hash_of hash ps in
    let q : 32 * (7 - level) + count_where (λ p. eqb (hash_of p.key) hash) ps ≡ on_path hash_of a v = omega (arith, z, f) in
    subst (λ x. k.copied ≤ h.copied + w * x) q s
