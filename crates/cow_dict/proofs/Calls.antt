-- What one key does to a dictionary.
use Rattle.std.proofs.Common.{◌≡◌, ℕ, zero, suc, ◌*◌, ◌≤◌, cond, length, map, set, List, [], ◌∷◌, ◌++◌, Bool, true, false, IsPermutation, slice_get, Some, None, sym, ap, ◌∙◌, subst, arith}
use Rattle.std.specs.Prelude.{option_map}
use Rattle.std.specs.List.{sum_by}
use Rattle.std.proofs.lemmas.List.{length-map}
use Rattle.std.proofs.lemmas.List.Sums.{sum_by-cons}
use Rattle.std.proofs.lemmas.Option.{slice_get-map}
use Rattle.cow_members.proofs.Ascents.{member-ascending}
use Rattle.cow_members.specs.Ascents.{Ascends}
use Rattle.cow_model.specs.Members.{member, ascending}
use Rattle.cow_model.specs.Pairs.{in_order, value_in, put}
use Rattle.cow_model.specs.Flat.{copies}
use Rattle.cow_model.specs.Purse.{Purse, Moves, more, unit_if}
use Rattle.cow_model.specs.declared.plain.Literal.{Literal}
use Rattle.cow_model.specs.declared.value.Pair.{Pair}
use Rattle.cow_dict.specs.Dictionaries.{has, without, units, key_units}
use Rattle.cow_dict.specs.Storages.{side_by_side, by_key, pair_of, keys}
use Rattle.cow_dict.proofs.Maps.{Distinct, ascends-by_key, has-member, keys-by_key, length-by_key, value-none, value-by_key, map-put, map-push, map-out, map-without}
use Rattle.cow_dict.proofs.Questions.{side-at}
use Rattle.cow_dict.proofs.Sides.{keys-side, length-side, sum-by_key, value-at, value-set}

-- the unit of a key is among those held
pub key-unit : (f g : Literal → Bool) (ks vs : List Literal) (i : ℕ) (a : Literal) → slice_get ks i ≡ Some a → unit_if (f a) ≤ sum_by (units f g) (side_by_side ks vs)
key-unit f g [] vs i a e = cc
key-unit f g (k ∷ ks) [] zero a e = let z : k ≡ a = cc in omega (arith, sum_by-cons (units f g) (pair_of k k) (side_by_side ks []), ap (λ x. unit_if (f x)) z)
key-unit f g (k ∷ ks) [] (suc i) a e = omega (arith, sum_by-cons (units f g) (pair_of k k) (side_by_side ks []), key-unit f g ks [] i a e)
key-unit f g (k ∷ ks) (v ∷ vs) zero a e = let z : k ≡ a = cc in omega (arith, sum_by-cons (units f g) (pair_of k v) (side_by_side ks vs), ap (λ x. unit_if (f x)) z)
key-unit f g (k ∷ ks) (v ∷ vs) (suc i) a e = omega (arith, sum_by-cons (units f g) (pair_of k v) (side_by_side ks vs), key-unit f g ks vs i a e)

module _ {K V : Type 0} (plain : K → Literal) (worth : V → Literal) (xs : List K) (ys : List V) where
  abbrev listed : List Pair
  listed = side_by_side (map plain xs) (map worth ys)

  pub has-map : (a : Literal) → has a (by_key listed) ≡ member a (map plain xs)
  has-map a = has-member a (by_key listed) ∙ ap (member a) (keys-by_key listed) ∙ member-ascending a (keys listed) ∙ ap (member a) (keys-side (map plain xs) (map worth ys))

  pub keys-map : keys (by_key listed) ≡ ascending (map plain xs)
  keys-map = keys-by_key listed ∙ ap ascending (keys-side (map plain xs) (map worth ys))

  pub count-listed : length listed ≡ length xs
  count-listed = length-side (map plain xs) (map worth ys) ∙ length-map xs plain

  pub count-map : length (by_key listed) ≡ length xs
  count-map = length-by_key listed ∙ count-listed

  -- a pair at its position
  pub listed-at : (i : ℕ) (x : K) (y : V) → slice_get xs i ≡ Some x → slice_get ys i ≡ Some y → slice_get listed i ≡ Some (pair_of (plain x) (worth y))
  listed-at i x y e f = side-at (map plain xs) (map worth ys) i (plain x) (worth y)
      (slice_get-map plain xs i ∙ ap (λ o. option_map plain o) e)
      (slice_get-map worth ys i ∙ ap (λ o. option_map worth o) f)

  module _ (apart : Ascends (ascending (map plain xs))) where
    pub distinct : Distinct listed
    distinct = subst (λ l. Ascends (ascending l)) (sym (keys-side (map plain xs) (map worth ys))) apart

    pub ascends-map : Ascends (keys (by_key listed))
    ascends-map = ascends-by_key listed distinct

    lacks : (a : Literal) → member a (map plain xs) ≡ false → member a (keys listed) ≡ false
    lacks a m = ap (member a) (keys-side (map plain xs) (map worth ys)) ∙ m

    pub value-there : (a : Literal) (i : ℕ) (y : V) → option_map plain (slice_get xs i) ≡ Some a → slice_get ys i ≡ Some y → value_in a listed ≡ Some (worth y)
    value-there a i y h e = value-at (map plain xs) (map worth ys) i a (worth y) apart (slice_get-map plain xs i ∙ h) (slice_get-map worth ys i ∙ ap (λ o. option_map worth o) e)

    pub value-lacks : (a : Literal) → member a (map plain xs) ≡ false → value_in a listed ≡ None
    value-lacks a m = value-none a listed (lacks a m)

    pub value-found : (a : Literal) (i : ℕ) (y : V) → option_map plain (slice_get xs i) ≡ Some a → slice_get ys i ≡ Some y → Some (worth y) ≡ value_in a (by_key listed)
    value-found a i y h e = sym (value-by_key listed distinct a ∙ value-there a i y h e)

    pub value-absent : (a : Literal) → member a (map plain xs) ≡ false → None ≡ value_in a (by_key listed)
    value-absent a m = sym (value-by_key listed distinct a ∙ value-lacks a m)

    pub map-pushed : (a w : Literal) → member a (map plain xs) ≡ false → by_key (listed ++ pair_of a w ∷ []) ≡ put in_order (by_key listed) (pair_of a w)
    map-pushed a w m = map-push listed (pair_of a w) distinct (lacks a m)

    pub map-replaced : (a w : Literal) (i : ℕ) → length ys ≡ length xs → option_map plain (slice_get xs i) ≡ Some a
        → by_key (side_by_side (map plain xs) (set (map worth ys) i w)) ≡ put in_order (by_key listed) (pair_of a w)
    map-replaced a w i n h =
        let vs = set (map worth ys) i w in
        map-put listed (side_by_side (map plain xs) vs) (pair_of a w) distinct
        (subst (λ l. Ascends (ascending l)) (sym (keys-side (map plain xs) vs)) apart)
        (value-set (map plain xs) (map worth ys) i a w apart (length-map ys worth ∙ n ∙ sym (length-map xs plain)) (slice_get-map plain xs i ∙ h))

    pub map-taken : (zs : List Pair) (a w : Literal) → IsPermutation listed (pair_of a w ∷ zs) → by_key zs ≡ without a (by_key listed)
    map-taken zs a w h = map-out listed zs (pair_of a w) distinct h

    pub map-kept : (a : Literal) → member a (map plain xs) ≡ false → by_key listed ≡ without a (by_key listed)
    map-kept a m = map-without listed a distinct (lacks a m)

-- the key that ends is one that was held
pub key-ends : (f : Literal → Bool) (a : Literal) (v : List Pair) → has a v ≡ true → key_units f a v ≡ unit_if (f a)
key-ends f a v e = ap (λ b. cond b (unit_if (f a)) 0) e

pub no-key-ends : (f : Literal → Bool) (a : Literal) (v : List Pair) → has a v ≡ false → key_units f a v ≡ 0
no-key-ends f a v e = ap (λ b. cond b (unit_if (f a)) 0) e

-- the storage is made alone, then a key ends that is the same as one that is held
pub paid-key : (f g : Literal → Bool) (w : ℕ) (alone : Bool) (ks vs : List Literal) (i : ℕ) (a : Literal) (h k l : Purse) → slice_get ks i ≡ Some a
    → Moves (sum_by (units f g) (side_by_side ks vs)) (copies alone (w * length ks)) h k → k.spare ≤ h.spare → l ≡ more (unit_if (f a)) k
    → Moves (sum_by (units f g) (by_key (side_by_side ks vs))) (copies alone (w * length (by_key (side_by_side ks vs)))) h l
paid-key f g w alone ks vs i a h k l at paid down e =
    let spare = ap (λ (p : Purse). p.spare) e in
    let copied = ap (λ (p : Purse). p.copied) e in
    let mine = sum-by_key (units f g) (side_by_side ks vs) in
    let made = ap (λ n. copies alone (w * n)) (length-by_key (side_by_side ks vs) ∙ length-side ks vs) in
    record {
      falls = omega (arith, paid.falls, spare, mine);
      rises = omega (arith, down, spare, mine, key-unit f g ks vs i a at);
      copied = omega (arith, paid.copied, copied, made);
      kept = omega (arith, paid.kept, copied);
    }

-- how the map of pairs follows their list, and which keys it has
pub ruleset call_steps = (length-by_key, sum-by_key, length-side, keys-side, keys-by_key, length-map, has-map)
