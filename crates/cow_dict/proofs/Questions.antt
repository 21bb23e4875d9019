-- What is asked of the pairs of dictionaries: whether two have the same, and which come first.
use Rattle.std.proofs.Common.{◌≡◌, ℕ, zero, suc, ◌+◌, ◌≤◌, length, map, take, List, [], ◌∷◌, Bool, true, false, ◌&&◌, cond, IsPermutation, slice_get, Option, Some, None, refl, sym, ap, ◌∙◌, subst, arith}
use Rattle.std.specs.Prelude.{is_some}
use Rattle.std.specs.List.{list_all, zip}
use Rattle.std.specs.List.Sorted.{IsSortedBy}
use Rattle.std.proofs.lemmas.Bool.{true≢false}
use Rattle.std.proofs.lemmas.Bool.Decides.{same_from_decides}
use Rattle.std.proofs.lemmas.List.{length-map}
use Rattle.std.proofs.lemmas.List.Folds.{list_all-append}
use Rattle.std.proofs.lemmas.List.Sorted.{IsPermutation-map}
use Rattle.std.proofs.lemmas.Slice.Zip.{firsts-zip, seconds-zip}
use Rattle.cow_model.proofs.Ascending.{on_side}
use Rattle.cow_members.proofs.Ascents.{same-is, itself, differs, member-same, member-ascending, all-alike, as-long, length-ascending}
use Rattle.cow_members.specs.Ascents.{Ascends}
use Rattle.cow_model.specs.Members.{member, ascending}
use Rattle.cow_model.specs.Order.{same}
use Rattle.cow_model.specs.Pairs.{value_in}
use Rattle.cow_model.specs.declared.plain.Literal.{Literal}
use Rattle.cow_model.specs.declared.value.Pair.{Pair}
use Rattle.cow_set.proofs.Sorted.{before, sorted-ascends}
use Rattle.cow_dict.specs.Dictionaries.{is_value, holds, kept_by}
use Rattle.cow_dict.specs.Storages.{pair_of, keys, by_key, side_by_side}
use Rattle.cow_dict.proofs.Maps.{Distinct, keys-tail, member-value, value-here, value-past, value-none, value-by_key, value-permutes, ascends-by_key, distinct-ascending, same-map}
use Rattle.cow_dict.proofs.Merges.{more-front}

-- ---- all of them, as far as they were looked at
module _ {X : Type 0} (p : X → Bool) where
  pub all-on : (xs : List X) (i : ℕ) (x : X) → slice_get xs i ≡ Some x → list_all p (take i xs) ≡ true → p x ≡ true → list_all p (take (i + 1) xs) ≡ true
  all-on xs i x e fronts now = ap (list_all p) (more-front xs i x e) ∙ list_all-append p (take i xs) (x ∷ []) ∙ ap (λ t. t && (p x && true)) fronts ∙ ap (λ t. t && true) now

  pub all-off : (xs : List X) (i : ℕ) (x : X) → slice_get xs i ≡ Some x → p x ≡ false → false ≡ list_all p xs
  all-off [] i x e n = cc
  all-off (y ∷ xs) zero x e n = let z : y ≡ x = cc in sym (ap (λ w. p w && list_all p xs) z ∙ ap (λ t. t && list_all p xs) n)
  all-off (y ∷ xs) (suc i) x e n = sym (and-no (p y) (list_all p xs) (sym (all-off xs i x e n)))
    where
      and-no : (a b : Bool) → b ≡ false → (a && b) ≡ false
      and-no true b z = z
      and-no false b z = refl

-- the order of the atoms doesn't matter
pub all-ascending : (p : Literal → Bool) (xs : List Literal) → list_all p xs ≡ list_all p (ascending xs)
all-ascending p xs = all-alike p p xs (ascending xs) (λ q. sym (member-ascending q xs)) (λ q. refl)

-- ---- a pair at its position
pub side-at : (ks vs : List Literal) (i : ℕ) (a w : Literal) → slice_get ks i ≡ Some a → slice_get vs i ≡ Some w → slice_get (side_by_side ks vs) i ≡ Some (pair_of a w)
side-at [] vs i a w e f = cc
side-at (k ∷ ks) [] i a w e f = cc
side-at (k ∷ ks) (v ∷ vs) zero a w e f =
    let z : k ≡ a = cc in
    let y : v ≡ w = cc in
    ap (λ (p : Pair). Some p) (ap (λ x. pair_of x v) z ∙ ap (pair_of a) y)
side-at (k ∷ ks) (v ∷ vs) (suc i) a w e f = side-at ks vs i a w e f

-- ---- whether a value is there
pub told : (b : Bool) (a w : Literal) → (b ≡ true → w ≡ a) → (w ≡ a → b ≡ true) → b ≡ same a w
told true a w f g = sym (ap (same a) (f refl) ∙ itself a)
told false a w f g = sym (differs a w (λ e. true≢false (sym (g (sym e)))))

pub is-held : (a : Literal) (o : Option Literal) → is_value a o ≡ true → o ≡ Some a
is-held a None e = absurd (true≢false (sym e))
is-held a (Some b) e = ap (λ (z : Literal). Some z) (sym (same-is a b e))

and-both : (a b : Bool) → (a && b) ≡ true → (a ≡ true) × (b ≡ true)
and-both true b e = (refl, e)
and-both false b e = absurd (true≢false (sym e))

-- where all keys stay, all pairs do
pub all-kept : (p : Literal → Bool) (ps : List Pair) → list_all p (keys ps) ≡ true → ps ≡ kept_by p ps
all-kept p [] e = refl
all-kept p (r ∷ ps) e =
    let both = and-both (p r.key) (list_all p (keys ps)) e in
    ap (λ l. r ∷ l) (all-kept p ps both.1) ∙ sym (ap (λ t. cond t (r ∷ kept_by p ps) (kept_by p ps)) both.0)

pub value-held : (ps rs : List Pair) → list_all (holds ps) rs ≡ true → (q v : Literal) → value_in q rs ≡ Some v → value_in q ps ≡ Some v
value-held ps [] all q v e = cc
value-held ps (r ∷ rs) all q v e =
    let both = and-both (holds ps r) (list_all (holds ps) rs) all in
    on_side (same q r.key)
    (λ s. ap (λ k. value_in k ps) (same-is q r.key s) ∙ is-held r.value (value_in r.key ps) both.0 ∙ sym (value-here q r rs s) ∙ e)
    (λ s. value-held ps rs both.1 q v (sym (value-past q r rs s) ∙ e))

pub all-held : (ps rs : List Pair) → Distinct rs → ((q v : Literal) → value_in q rs ≡ Some v → value_in q ps ≡ Some v) → list_all (holds ps) rs ≡ true
all-held ps [] d h = refl
all-held ps (r ∷ rs) d h =
    let t = keys-tail r.key (keys rs) d in
    ap (λ b. b && list_all (holds ps) rs) (ap (is_value r.value) (h r.key r.value (value-here r.key r rs (itself r.key))) ∙ itself r.value)
    ∙ all-held ps rs t.1 (λ q v e. h q v (value-past q r rs (on_side (same q r.key)
    (λ s. absurd (true≢false (sym (member-value q rs ∙ ap is_some e) ∙ member-same q r.key (keys rs) s ∙ t.0)))
    (λ s. s)) ∙ e))

some-is : (o : Option Literal) → is_some o ≡ true → (v : Literal) × (o ≡ Some v)
some-is None e = absurd (true≢false (sym e))
some-is (Some v) e = (v, refl)

-- as many pairs, and all of them there
pub equal-by : (ps rs : List Pair) → Distinct ps → Distinct rs → length ps ≡ length rs → list_all (holds ps) rs ≡ true → by_key ps ≡ by_key rs
equal-by ps rs d e n all =
    let us = ascending (keys rs) in
    let vs = ascending (keys ps) in
    let long : length vs ≤ length us = omega (arith, n, length-ascending (keys rs), length-ascending (keys ps), length-map rs (λ r. r.key), length-map ps (λ r. r.key)) in
    let alike : us ≡ vs = as-long us vs e d (λ q m.
    let found = some-is (value_in q rs) (sym (member-value q rs) ∙ sym (member-ascending q (keys rs)) ∙ m) in
    member-ascending q (keys ps) ∙ member-value q ps ∙ ap is_some (value-held ps rs all q found.0 found.1)) long in
    same-map (by_key ps) (by_key rs) (ascends-by_key ps d) (ascends-by_key rs e) (λ q. value-by_key ps d q ∙ on_side (member q (keys rs))
    (λ m. let found = some-is (value_in q rs) (sym (member-value q rs) ∙ m) in value-held ps rs all q found.0 found.1 ∙ sym found.1)
    (λ m. value-none q ps (sym (member-ascending q (keys ps)) ∙ ap (member q) (sym alike) ∙ member-ascending q (keys rs) ∙ m) ∙ sym (value-none q rs m))
    ∙ sym (value-by_key rs e q))

pub equal-back : (ps rs : List Pair) → Distinct ps → Distinct rs → by_key ps ≡ by_key rs → list_all (holds ps) rs ≡ true
equal-back ps rs d e same_map = all-held ps rs e (λ q v f. sym (value-by_key ps d q) ∙ ap (value_in q) same_map ∙ value-by_key rs e q ∙ f)

-- the order of the pairs doesn't matter
pub held-by_key : (ps rs : List Pair) → Distinct ps → Distinct rs → list_all (holds ps) rs ≡ list_all (holds (by_key ps)) (by_key rs)
held-by_key ps rs d e =
    let t = distinct-ascending (by_key rs) (ascends-by_key rs e) in
    same_from_decides (list_all (holds ps) rs) (list_all (holds (by_key ps)) (by_key rs))
    (value-held ps rs, all-held ps rs e) (
      (λ all q v f. sym (value-by_key ps d q) ∙ value-held (by_key ps) (by_key rs) all q v (value-by_key rs e q ∙ f)),
      (λ h. all-held (by_key ps) (by_key rs) t (λ q v f. value-by_key ps d q ∙ h q v (sym (value-by_key rs e q) ∙ f))),
    )

-- ---- pairs in the order of their keys
pub sorted-map : (ps ss : List Pair) → Distinct ps → IsPermutation ps ss → Ascends (keys ss) → ss ≡ by_key ps
sorted-map ps ss d h s = same-map ss (by_key ps) s (ascends-by_key ps d) (λ q. value-permutes ps ss h d q ∙ sym (value-by_key ps d q))

-- R is the type of references to a key and its value, which `key` and `value` read
module _ {R K V : Type 0} (key : R → K) (value : R → V) (plain : K → Literal) (worth : V → Literal) where
  abbrev pub shown : R → Pair
  shown r = pair_of (plain (key r)) (worth (value r))

  abbrev pub first : R → Literal
  first r = plain (key r)

  keys-shown : (rs : List R) → keys (map shown rs) ≡ map first rs
  keys-shown [] = refl
  keys-shown (r ∷ rs) = ap (λ l. first r ∷ l) (keys-shown rs)

  shown-side : (rs : List R) → map shown rs ≡ side_by_side (map plain (map key rs)) (map worth (map value rs))
  shown-side [] = refl
  shown-side (r ∷ rs) = ap (λ l. shown r ∷ l) (shown-side rs)

  keys-both : (rs : List R) → map key rs ≡ map (λ (p : K × V). p.0) (map (λ r. (key r, value r)) rs)
  keys-both [] = refl
  keys-both (r ∷ rs) = ap (λ l. key r ∷ l) (keys-both rs)

  values-both : (rs : List R) → map value rs ≡ map (λ (p : K × V). p.1) (map (λ r. (key r, value r)) rs)
  values-both [] = refl
  values-both (r ∷ rs) = ap (λ l. value r ∷ l) (values-both rs)

  pub shown-sorted : (rs ss : List R) (xs : List K) (ys : List V) → map (λ r. (key r, value r)) rs ≡ zip xs ys → length ys ≡ length xs
      → Distinct (side_by_side (map plain xs) (map worth ys)) → IsPermutation rs ss → IsSortedBy (before first) ss → map shown ss ≡ by_key (side_by_side (map plain xs) (map worth ys))
  shown-sorted rs ss xs ys both n d h up =
      let e : map key rs ≡ xs = keys-both rs ∙ ap (map (λ (p : K × V). p.0)) both ∙ firsts-zip xs ys n in
      let f : map value rs ≡ ys = values-both rs ∙ ap (map (λ (p : K × V). p.1)) both ∙ seconds-zip xs ys n in
      let side : map shown rs ≡ side_by_side (map plain xs) (map worth ys) = shown-side rs ∙ ap (λ l. side_by_side (map plain l) (map worth (map value rs))) e ∙ ap (λ l. side_by_side (map plain xs) (map worth l)) f in
      let apart : Distinct (map shown rs) = subst Distinct (sym side) d in
      let up_keys : Ascends (keys (map shown ss)) = subst Ascends (ap ascending (keys-shown rs) ∙ sym (sorted-ascends first rs ss h up) ∙ sym (keys-shown ss)) apart in
      sorted-map (map shown rs) (map shown ss) apart (IsPermutation-map shown rs ss h) up_keys ∙ ap by_key side
