-- Keys and values side by side, when pairs come and go.
use Rattle.std.proofs.Common.{◌≡◌, ℕ, zero, suc, ◌+◌, ◌-◌, length, map, take, drop, set, get_or, List, [], ◌∷◌, ◌++◌, Bool, true, false, ◌||◌, cond, count_by, IsPermutation, slice_get, Some, refl, sym, ap, ◌∙◌, subst, arith}
use Rattle.std.specs.List.{swap_remove, sum_by}
use Rattle.std.proofs.lemmas.Bool.{true≢false}
use Rattle.std.proofs.lemmas.List.{length-map, length-set, map-append, map-set, take-map}
use Rattle.std.proofs.lemmas.List.Sorted.{IsPermutation-swap_remove, sum_by-IsPermutation}
use Rattle.std.proofs.lemmas.List.Sums.{sum_by-cons}
use Rattle.std.proofs.lemmas.Option.{get_or_from_slice_get, slice_get_within}
use Rattle.cow_model.proofs.Ascending.{on_side}
use Rattle.cow_members.proofs.Ascents.{itself, member-same, or-true}
use Rattle.cow_members.specs.Ascents.{Ascends}
use Rattle.cow_model.specs.Members.{member, ascending}
use Rattle.cow_model.specs.Order.{same}
use Rattle.cow_model.specs.Pairs.{value_in}
use Rattle.cow_model.specs.Purse.{unit_if}
use Rattle.cow_model.specs.declared.plain.Literal.{Literal}
use Rattle.cow_model.specs.declared.value.Pair.{Pair}
use Rattle.cow_dict.specs.Dictionaries.{units}
use Rattle.cow_dict.specs.Storages.{side_by_side, by_key, pair_of, keys}
use Rattle.cow_dict.proofs.Maps.{choice, keys-tail, value-here, value-past, value-cons, else-same, crossed, other-key, permutes, length-by_key, keys-by_key}

pub keys-side : (ks vs : List Literal) → keys (side_by_side ks vs) ≡ ks
keys-side [] vs = refl
keys-side (k ∷ ks) vs = ap (λ l. k ∷ l) (keys-side ks (drop 1 vs))

pub length-side : (ks vs : List Literal) → length (side_by_side ks vs) ≡ length ks
length-side [] vs = refl
length-side (k ∷ ks) vs = ap suc (length-side ks (drop 1 vs))

pub side-push : (ks vs : List Literal) (k v : Literal) → length vs ≡ length ks → side_by_side (ks ++ k ∷ []) (vs ++ v ∷ []) ≡ side_by_side ks vs ++ pair_of k v ∷ []
side-push [] [] k v e = refl
side-push [] (x ∷ vs) k v e = absurd (omega (arith, e))
side-push (x ∷ ks) [] k v e = absurd (omega (arith, e))
side-push (x ∷ ks) (y ∷ vs) k v e = ap (λ l. pair_of x y ∷ l) (side-push ks vs k v (omega (arith, e)))

-- ---- what stands under the key at a position
got-member : (ks : List Literal) (i : ℕ) (a : Literal) → slice_get ks i ≡ Some a → member a ks ≡ true
got-member [] i a e = cc
got-member (k ∷ ks) zero a e = let z : k ≡ a = cc in ap (λ b. b || member a ks) (ap (same a) z ∙ itself a)
got-member (k ∷ ks) (suc i) a e = ap (λ b. same a k || b) (got-member ks i a e) ∙ or-true (same a k)

other-place : (a k : Literal) (ks : List Literal) (i : ℕ) → member k ks ≡ false → slice_get ks i ≡ Some a → same a k ≡ false
other-place a k ks i m e = on_side (same a k) (λ f. absurd (true≢false (sym (got-member ks i a e) ∙ member-same a k ks f ∙ m))) (λ f. f)

pub value-at : (ks vs : List Literal) (i : ℕ) (a w : Literal) → Ascends (ascending ks) → slice_get ks i ≡ Some a → slice_get vs i ≡ Some w → value_in a (side_by_side ks vs) ≡ Some w
value-at [] vs i a w d e f = cc
value-at (k ∷ ks) [] i a w d e f = cc
value-at (k ∷ ks) (v ∷ vs) zero a w d e f =
    let z : k ≡ a = cc in
    let y : v ≡ w = cc in
    value-here a (pair_of k v) (side_by_side ks vs) (ap (same a) z ∙ itself a) ∙ ap (λ (x : Literal). Some x) y
value-at (k ∷ ks) (v ∷ vs) (suc i) a w d e f =
    let t = keys-tail k ks d in
    value-past a (pair_of k v) (side_by_side ks vs) (other-place a k ks i t.0 e) ∙ value-at ks vs i a w t.1 e f

-- another value under the key at a position
pub value-set : (ks vs : List Literal) (i : ℕ) (a w : Literal) → Ascends (ascending ks) → length vs ≡ length ks → slice_get ks i ≡ Some a
    → (q : Literal) → value_in q (side_by_side ks (set vs i w)) ≡ choice (same q a) (Some w) (value_in q (side_by_side ks vs))
value-set [] vs i a w d n e q = cc
value-set (k ∷ ks) [] i a w d n e q = absurd (omega (arith, n))
value-set (k ∷ ks) (v ∷ vs) zero a w d n e q =
    let z : k ≡ a = cc in
    value-cons q (pair_of k w) (side_by_side ks vs)
    ∙ else-same (same q k) (Some w) (value_in q (side_by_side ks vs)) (value_in q (pair_of k v ∷ side_by_side ks vs)) (λ f. sym (value-past q (pair_of k v) (side_by_side ks vs) f))
    ∙ ap (λ x. choice (same q x) (Some w) (value_in q (pair_of k v ∷ side_by_side ks vs))) z
value-set (k ∷ ks) (v ∷ vs) (suc i) a w d n e q =
    let t = keys-tail k ks d in
    value-cons q (pair_of k v) (side_by_side ks (set vs i w))
    ∙ ap (λ o. choice (same q k) (Some v) o) (value-set ks vs i a w t.1 (omega (arith, n)) e q)
    ∙ crossed (same q k) (same q a) (Some v) (Some w) (value_in q (side_by_side ks vs)) (other-key q a k (other-place a k ks i t.0 e))
    ∙ ap (λ o. choice (same q a) (Some w) o) (sym (value-cons q (pair_of k v) (side_by_side ks vs)))

-- ---- the last pair in the place of one that is taken out
side-take : (n : ℕ) (ks vs : List Literal) → length vs ≡ length ks → side_by_side (take n ks) (take n vs) ≡ take n (side_by_side ks vs)
side-take zero ks vs e = refl
side-take (suc n) [] vs e = refl
side-take (suc n) (k ∷ ks) [] e = absurd (omega (arith, e))
side-take (suc n) (k ∷ ks) (v ∷ vs) e = ap (λ l. pair_of k v ∷ l) (side-take n ks vs (omega (arith, e)))

side-set : (ks vs : List Literal) (i : ℕ) (a b : Literal) → length vs ≡ length ks → side_by_side (set ks i a) (set vs i b) ≡ set (side_by_side ks vs) i (pair_of a b)
side-set [] vs i a b e = refl
side-set (k ∷ ks) [] i a b e = absurd (omega (arith, e))
side-set (k ∷ ks) (v ∷ vs) zero a b e = refl
side-set (k ∷ ks) (v ∷ vs) (suc i) a b e = ap (λ l. pair_of k v ∷ l) (side-set ks vs i a b (omega (arith, e)))

side-or : (ks vs : List Literal) (j : ℕ) (a b : Literal) → length vs ≡ length ks → get_or (side_by_side ks vs) j (pair_of a b) ≡ pair_of (get_or ks j a) (get_or vs j b)
side-or [] [] j a b e = refl
side-or [] (v ∷ vs) j a b e = absurd (omega (arith, e))
side-or (k ∷ ks) [] j a b e = absurd (omega (arith, e))
side-or (k ∷ ks) (v ∷ vs) zero a b e = refl
side-or (k ∷ ks) (v ∷ vs) (suc j) a b e = side-or ks vs j a b (omega (arith, e))

side-removed : (ks vs : List Literal) (i : ℕ) (a b : Literal) → length vs ≡ length ks → side_by_side (swap_remove ks i a) (swap_remove vs i b) ≡ swap_remove (side_by_side ks vs) i (pair_of a b)
side-removed ks vs i a b e =
    let n = length ks - 1 in
    let x = get_or ks n a in
    let y = get_or vs n b in
    ap (λ m. side_by_side (swap_remove ks i a) (take (m - 1) (set vs i (get_or vs (m - 1) b)))) e
    ∙ side-take n (set ks i x) (set vs i y) (length-set vs i y ∙ e ∙ sym (length-set ks i x))
    ∙ ap (take n) (side-set ks vs i x y e ∙ ap (λ p. set (side_by_side ks vs) i p) (sym (side-or ks vs n a b e)))
    ∙ ap (λ m. take (m - 1) (set (side_by_side ks vs) i (get_or (side_by_side ks vs) (m - 1) (pair_of a b)))) (sym (length-side ks vs))

module _ {T : Type 0} (f : T → Literal) where
  or-map : (xs : List T) (j : ℕ) (x : T) → get_or (map f xs) j (f x) ≡ f (get_or xs j x)
  or-map [] j x = refl
  or-map (y ∷ xs) zero x = refl
  or-map (y ∷ xs) (suc j) x = or-map xs j x

  map-removed : (xs : List T) (i : ℕ) (x : T) → map f (swap_remove xs i x) ≡ swap_remove (map f xs) i (f x)
  map-removed xs i x =
      let n = length xs - 1 in
      sym (take-map f n (set xs i (get_or xs n x)))
      ∙ ap (take n) (map-set f xs i (get_or xs n x) ∙ ap (λ y. set (map f xs) i y) (sym (or-map xs n x)))
      ∙ ap (λ m. take (m - 1) (set (map f xs) i (get_or (map f xs) (m - 1) (f x)))) (sym (length-map xs f))

module _ {K V : Type 0} (plain : K → Literal) (worth : V → Literal) where
  long : (xs : List K) (ys : List V) → length ys ≡ length xs → length (map worth ys) ≡ length (map plain xs)
  long xs ys e = length-map ys worth ∙ e ∙ sym (length-map xs plain)

  pub side-pushed : (ks : List Literal) (ys : List V) (k : Literal) (y : V) → length ys ≡ length ks
      → side_by_side (ks ++ k ∷ []) (map worth (ys ++ y ∷ [])) ≡ side_by_side ks (map worth ys) ++ pair_of k (worth y) ∷ []
  side-pushed ks ys k y e = ap (side_by_side (ks ++ k ∷ [])) (map-append worth ys (y ∷ [])) ∙ side-push ks (map worth ys) k (worth y) (length-map ys worth ∙ e)

  pub side-out : (xs : List K) (ys : List V) (i : ℕ) (x : K) (y : V) → length ys ≡ length xs → slice_get xs i ≡ Some x → slice_get ys i ≡ Some y
      → IsPermutation (side_by_side (map plain xs) (map worth ys)) (pair_of (plain x) (worth y) ∷ side_by_side (map plain (swap_remove xs i x)) (map worth (swap_remove ys i y)))
  side-out xs ys i x y e s t =
      let ks = map plain xs in
      let vs = map worth ys in
      let gone : side_by_side (map plain (swap_remove xs i x)) (map worth (swap_remove ys i y)) ≡ swap_remove (side_by_side ks vs) i (pair_of (plain x) (worth y))
      = ap (λ l. side_by_side l (map worth (swap_remove ys i y))) (map-removed plain xs i x)
      ∙ ap (side_by_side (swap_remove ks i (plain x))) (map-removed worth ys i y)
      ∙ side-removed ks vs i (plain x) (worth y) (long xs ys e) in
      let there : pair_of (plain x) (worth y) ≡ get_or (side_by_side ks vs) i (pair_of (plain x) (worth y))
      = sym (side-or ks vs i (plain x) (worth y) (long xs ys e)
      ∙ ap (λ k. pair_of k (get_or vs i (worth y))) (or-map plain xs i x ∙ ap plain (get_or_from_slice_get xs i x x s))
      ∙ ap (λ v. pair_of (plain x) v) (or-map worth ys i y ∙ ap worth (get_or_from_slice_get ys i y y t))) in
      subst (λ l. IsPermutation (side_by_side ks vs) (pair_of (plain x) (worth y) ∷ l)) (sym gone)
      (IsPermutation-swap_remove (side_by_side ks vs) i (pair_of (plain x) (worth y)) (omega (arith, slice_get_within xs i x s, length-side ks vs, length-map xs plain)) there)

-- ---- the units
pub units_side : (f g : Literal → Bool) (ks vs : List Literal) → length vs ≡ length ks → sum_by (units f g) (side_by_side ks vs) ≡ count_by f ks + count_by g vs
units_side f g [] [] e = refl
units_side f g [] (v ∷ vs) e = absurd (omega (arith, e))
units_side f g (k ∷ ks) [] e = absurd (omega (arith, e))
units_side f g (k ∷ ks) (v ∷ vs) e = omega (
  arith,
  sum_by-cons (units f g) (pair_of k v) (side_by_side ks vs),
  sum_by-cons (λ a. cond (f a) 1 0) k ks,
  sum_by-cons (λ a. cond (g a) 1 0) v vs,
  units_side f g ks vs (omega (arith, e)),
)

-- another value in the place of one
pub count-set : (p : Literal → Bool) (vs : List Literal) (i : ℕ) (o w : Literal) → slice_get vs i ≡ Some o → count_by p (set vs i w) + unit_if (p o) ≡ count_by p vs + unit_if (p w)
count-set p [] i o w e = cc
count-set p (v ∷ vs) zero o w e =
    let z : v ≡ o = cc in
    omega (arith, sum_by-cons (λ a. cond (p a) 1 0) w vs, sum_by-cons (λ a. cond (p a) 1 0) v vs, ap (λ a. unit_if (p a)) z)
count-set p (v ∷ vs) (suc i) o w e =
    omega (arith, sum_by-cons (λ a. cond (p a) 1 0) v (set vs i w), sum_by-cons (λ a. cond (p a) 1 0) v vs, count-set p vs i o w e)

pub sum-by_key : (f : Pair → ℕ) (ps : List Pair) → sum_by f (by_key ps) ≡ sum_by f ps
sum-by_key f ps = sum_by-IsPermutation f ps (by_key ps) (permutes ps)

-- how the units of pairs are those of keys and values
pub ruleset unit_steps = (units_side, length-map)

-- how the map of pairs follows their list
pub ruleset dict_steps = (length-by_key, sum-by_key, length-side, keys-side, keys-by_key, length-map)
