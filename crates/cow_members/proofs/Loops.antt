-- What each turn of a loop over the keys of a set adds to the turns before.
use Rattle.std.proofs.Common.{◌≡◌, ℕ, zero, suc, ◌+◌, ◌-◌, ◌*◌, ◌<◌, ◌≤◌, length, map, take, drop, set, get_or, List, [], ◌∷◌, ◌++◌, Bool, true, false, not, ◌||◌, ◌&&◌, cond, count_by, IsPermutation, slice_get, Some, refl, sym, ap, ◌∙◌, subst, arith}
use Rattle.std.specs.List.{list_all, swap_remove}
use Rattle.std.specs.Prelude.{option_map}
use Rattle.std.proofs.lemmas.List.{take-append-drop, take-map}
use Rattle.std.proofs.lemmas.List.Folds.{list_any-append, list_all-append}
use Rattle.std.proofs.lemmas.List.Sums.{fold-append, sum_by-cons}
use Rattle.std.proofs.lemmas.List.Sorted.{IsPermutation-middle, IsPermutation-map, list_any-IsPermutation, sum_by-IsPermutation}
use Rattle.cow_model.proofs.ListSteps.{map-take-more, count_by_push, unit_if-le}
use Rattle.cow_model.specs.Members.{member, in_order, last, ascending, with_member, union}
use Rattle.cow_model.specs.Order.{same}
use Rattle.cow_model.specs.Purse.{Purse, Moves, unit_if}
use Rattle.cow_model.specs.declared.plain.Literal.{Literal}
use Rattle.cow_members.specs.Ascents.{Ascends}
use Rattle.cow_model.proofs.Ascending.{on_side, ascending_cons, ascending_permutes}
use Rattle.cow_members.proofs.Ascents.{same-is, member-same, member-ascending, member-last, ascends-out}
use Rattle.cow_members.proofs.Sets.{set-out}
use Rattle.cow_row.proofs.Runs.{units-run}
use Rattle.cow_members.proofs.Costs.{moves-on}
use Rattle.cow_members.proofs.Operations.{union-longer}
use Rattle.cow_members.specs.Sets.{either, lacking}

-- ---- the union with a list that is looked at from its front
pub union-push : (xs ys : List Literal) (a : Literal) → union last xs (ys ++ a ∷ []) ≡ with_member last (union last xs ys) a
union-push xs ys a = fold-append (with_member last) xs ys (a ∷ [])

pub union-part : (xs ys : List Literal) (i : ℕ) → length (union last xs (take i ys)) ≤ length (union last xs ys)
union-part xs ys i = subst (λ l. length (union last xs (take i ys)) ≤ length (union last xs l)) (take-append-drop i ys)
    (subst (λ l. length (union last xs (take i ys)) ≤ length l) (sym (fold-append (with_member last) xs (take i ys) (drop i ys))) (union-longer (union last xs (take i ys)) (drop i ys)))

-- ---- distinct members stand once
split-at : {X : Type 0} (xs : List X) (i : ℕ) (x : X) → slice_get xs i ≡ Some x → xs ≡ take i xs ++ x ∷ drop (suc i) xs
split-at [] i x e = cc
split-at (y ∷ ys) zero x e = let z : y ≡ x = cc in ap (λ w. w ∷ ys) z
split-at (y ∷ ys) (suc i) x e = ap (λ l. y ∷ l) (split-at ys i x e)

or-none : (a b : Bool) → (a || b) ≡ false → a ≡ false
or-none true b e = cc
or-none false b e = refl

pub apart-front : (xs : List Literal) (i : ℕ) (a : Literal) → Ascends (ascending xs) → slice_get xs i ≡ Some a → member a (take i xs) ≡ false
apart-front xs i a s e =
    let before = take i xs in let behind = drop (suc i) xs in
    let turned : ascending xs ≡ in_order a (ascending (before ++ behind))
    = ap ascending (split-at xs i a e) ∙ sym (ascending_permutes (before ++ a ∷ behind) (a ∷ (before ++ behind)) (IsPermutation-middle before a behind)) ∙ ascending_cons a (before ++ behind) in
    let out = ascends-out a (ascending (before ++ behind)) (subst Ascends turned s) in
    or-none (member a before) (member a behind) (sym (list_any-append (same a) before behind) ∙ sym (member-ascending a (before ++ behind)) ∙ out.0)

-- ---- of those that stay
absorbs : (m k : Bool) → (m && (m || k)) ≡ m
absorbs true k = refl
absorbs false k = refl

pub kept-all : (q : Literal) (xs : List Literal) (keep : Bool) → member q xs ≡ (member q xs && (member q xs || keep))
kept-all q xs keep = sym (absorbs (member q xs) keep)

turn-mine : (m k : Bool) → ((m && (true || k)) && (not true || k)) ≡ (m && (false || k))
turn-mine true k = refl
turn-mine false k = refl

turn-other : (m t k : Bool) → ((m && (t || k)) && (not false || k)) ≡ (m && (t || k))
turn-other true true k = refl
turn-other true false true = refl
turn-other true false false = refl
turn-other false t k = refl

pub kept-turn : (q a : Literal) (m k : Bool) (before : List Literal) → member a before ≡ false → ((m && (member q (last a before) || k)) && (not (same q a) || k)) ≡ (m && (member q before || k))
kept-turn q a m k before gone = on_side (same q a)
    (λ e. ap (λ t. (m && (t || k)) && (not (same q a) || k)) (member-last q a before ∙ ap (λ t. t || member q before) e)
    ∙ ap (λ t. (m && (true || k)) && (not t || k)) e ∙ turn-mine m k ∙ ap (λ t. m && (t || k)) (sym (member-same q a before e ∙ gone)))
    (λ e. ap (λ t. (m && (t || k)) && (not (same q a) || k)) (member-last q a before ∙ ap (λ t. t || member q before) e)
    ∙ ap (λ t. (m && (member q before || k)) && (not t || k)) e ∙ turn-other m (member q before) k)

-- ---- of those that come and go
pub toggled-turn : (q a : Literal) (m : Bool) (before : List Literal) → member a before ≡ false → either (same q a) (either (member q before) m) ≡ either (member q (last a before)) m
toggled-turn q a m before gone = on_side (same q a)
    (λ e. ap (λ t. either t (either (member q before) m)) e ∙ ap (λ t. not (either t m)) (member-same q a before e ∙ gone)
    ∙ sym (ap (λ t. either t m) (member-last q a before ∙ ap (λ t. t || member q before) e)))
    (λ e. ap (λ t. either t (either (member q before) m)) e ∙ sym (ap (λ t. either t m) (member-last q a before ∙ ap (λ t. t || member q before) e)))

module _ {K : Type 0} (plain : K → Literal) where
  -- ---- all of them, as far as they were looked at
  pub all-more : (p : Literal → Bool) (xs : List K) (i : ℕ) (x : K) → slice_get xs i ≡ Some x → list_all p (map plain (take i xs)) ≡ true → p (plain x) ≡ true → list_all p (map plain (take (i + 1) xs)) ≡ true
  all-more p xs i x e before now = ap (list_all p) (map-take-more plain xs i x e) ∙ list_all-append p (map plain (take i xs)) (plain x ∷ [])
      ∙ ap (λ t. t && (p (plain x) && true)) before ∙ ap (λ t. t && true) now

  pub all-not : (p : Literal → Bool) (xs : List K) (i : ℕ) (x : K) → slice_get xs i ≡ Some x → p (plain x) ≡ false → false ≡ list_all p (map plain xs)
  all-not p [] i x e n = cc
  all-not p (y ∷ xs) zero x e n = let z : y ≡ x = cc in sym (ap (λ w. p (plain w) && list_all p (map plain xs)) z ∙ ap (λ t. t && list_all p (map plain xs)) n)
  all-not p (y ∷ xs) (suc i) x e n = sym (and-no (p (plain y)) (list_all p (map plain xs)) (sym (all-not p xs i x e n)))
    where
      and-no : (a b : Bool) → b ≡ false → (a && b) ≡ false
      and-no true b z = z
      and-no false b z = refl

  -- ---- how many are missing, as far as they were looked at
  pub lacking-turn : (ms : List Literal) (xs : List K) (i : ℕ) (x : K) → slice_get xs i ≡ Some x
      → lacking ms (map plain (take (i + 1) xs)) ≡ lacking ms (map plain (take i xs)) + unit_if (not (member (plain x) ms))
  lacking-turn ms xs i x e = ap (lacking ms) (map-take-more plain xs i x e) ∙ count_by_push (λ a. not (member a ms)) (map plain (take i xs)) (plain x)

  -- ---- the union, as far as it is made
  pub union-turn : (old : List Literal) (xs : List K) (i : ℕ) (x : K) → slice_get xs i ≡ Some x
      → with_member last (union last old (map plain (take i xs))) (plain x) ≡ union last old (map plain (take (i + 1) xs))
  union-turn old xs i x e = sym (ap (union last old) (map-take-more plain xs i x e) ∙ union-push old (map plain (take i xs)) (plain x))

  pub union-room : (old : List Literal) (xs : List K) (i : ℕ) (x : K) → slice_get xs i ≡ Some x
      → length (with_member last (union last old (map plain (take i xs))) (plain x)) ≤ length (union last old (map plain xs))
  union-room old xs i x e = subst (λ l. length l ≤ length (union last old (map plain xs))) (sym (union-turn old xs i x e))
      (subst (λ l. length (union last old l) ≤ length (union last old (map plain xs))) (take-map plain (i + 1) xs) (union-part old (map plain xs) (i + 1)))

  pub moves-turn : (p : Literal → Bool) (w : ℕ) (xs : List K) (i : ℕ) (x : K) (h k l : Purse) → slice_get xs i ≡ Some x
      → Moves (count_by p (map plain (take i xs))) (w * i) h k → Moves (unit_if (p (plain x))) w k l → Moves (count_by p (map plain (take (i + 1) xs))) (w * (i + 1)) h l
  moves-turn p w xs i x h k l e a b =
      subst (λ n. Moves n (w * (i + 1)) h l) (sym (ap (count_by p) (map-take-more plain xs i x e) ∙ count_by_push p (map plain (take i xs)) (plain x)))
      (subst (λ n. Moves (count_by p (map plain (take i xs)) + unit_if (p (plain x))) n h l) (times-more w i) (moves-on _ _ _ _ h k l a b))
    where
      times-more : (w i : ℕ) → w * i + w ≡ w * (i + 1)
      times-more w i = omega arith

-- ---- fronts of the others
module _ {K : Type 0} (plain : K → Literal) where
  pub front-units : (p : Literal → Bool) (xs : List K) (i : ℕ) → count_by p (map plain (take i xs)) ≤ i
  front-units p xs zero = omega arith
  front-units p [] (suc i) = omega arith
  front-units p (x ∷ xs) (suc i) = omega (arith, sum_by-cons (λ y. cond (p y) 1 0) (plain x) (map plain (take i xs)), unit_if-le (p (plain x)), front-units p xs i)

  pub lacking-part : (ms : List Literal) (xs : List K) (n : ℕ) → lacking ms (map plain (take n xs)) ≤ lacking ms (map plain xs)
  lacking-part ms xs n = units-run plain (λ a. not (member a ms)) xs 0 n

-- ---- parts of lists
pub take-less : {X : Type 0} (xs : List X) (i n : ℕ) → i ≤ n → take i (take n xs) ≡ take i xs
take-less xs zero n l = refl
take-less [] (suc i) zero l = refl
take-less [] (suc i) (suc n) l = refl
take-less (x ∷ xs) (suc i) zero l = absurd (omega arith)
take-less (x ∷ xs) (suc i) (suc n) l = ap (λ r. x ∷ r) (take-less xs i n (omega arith))

take-set : {X : Type 0} (xs : List X) (i : ℕ) (y : X) → take i (set xs i y) ≡ take i xs
take-set [] i y = refl
take-set (x ∷ xs) zero y = refl
take-set (x ∷ xs) (suc i) y = ap (λ r. x ∷ r) (take-set xs i y)

get-take : {X : Type 0} (xs : List X) (n k : ℕ) → k < n → slice_get (take n xs) k ≡ slice_get xs k
get-take xs zero k h = absurd (omega arith)
get-take [] (suc n) k h = refl
get-take (x ∷ xs) (suc n) zero h = refl
get-take (x ∷ xs) (suc n) (suc k) h = get-take xs n k (omega arith)

-- the items before the one that is taken out
pub front-kept : {X : Type 0} (xs : List X) (i : ℕ) (d : X) → i < length xs → take i (swap_remove xs i d) ≡ take i xs
front-kept xs i d l = take-less (set xs i (get_or xs (length xs - 1) d)) i (length xs - 1) (omega (arith, l)) ∙ take-set xs i (get_or xs (length xs - 1) d)

pub fronts-less : (xs ys : List Literal) (i : ℕ) → take (i + 1) xs ≡ take (i + 1) ys → take i xs ≡ take i ys
fronts-less xs ys i e = sym (take-less xs i (i + 1) (omega arith)) ∙ ap (take i) e ∙ take-less ys i (i + 1) (omega arith)

pub fronts-at : (xs ys : List Literal) (i : ℕ) (a : Literal) → take (i + 1) xs ≡ take (i + 1) ys → slice_get xs i ≡ Some a → slice_get ys i ≡ Some a
fronts-at xs ys i a e h = sym (get-take ys (i + 1) i (omega arith)) ∙ ap (λ l. slice_get l i) (sym e) ∙ get-take xs (i + 1) i (omega arith) ∙ h

-- ---- one goes out
module _ {K : Type 0} (plain : K → Literal) where
  pub some-at : (xs : List K) (i : ℕ) → i < length xs → (a : Literal) × (option_map plain (slice_get xs i) ≡ Some a)
  some-at [] i l = absurd (omega arith)
  some-at (x ∷ xs) zero l = (plain x, refl)
  some-at (x ∷ xs) (suc i) l = some-at xs i (omega arith)

  module _ (xs ys : List K) (x : K) (a : Literal) (h : IsPermutation xs (x ∷ ys)) (s : Ascends (ascending (map plain xs))) (e : plain x ≡ a) where
    was : (q : Literal) → member q (map plain xs) ≡ (same q a || member q (map plain ys))
    was q = list_any-IsPermutation (same q) (map plain xs) (map plain (x ∷ ys)) (IsPermutation-map plain xs (x ∷ ys) h) ∙ ap (λ z. same q z || member q (map plain ys)) e

    gone : member a (map plain ys) ≡ false
    gone = sym (member-ascending a (map plain ys))
        ∙ (ascends-out a (ascending (map plain ys)) (subst Ascends (subst (λ b. ascending (map plain xs) ≡ in_order b (ascending (map plain ys))) e (set-out plain xs ys x h)) s)).0

    out-mine : (m k t : Bool) → m ≡ false → k ≡ false → m ≡ ((true || t) && (not true || k))
    out-mine m k t u v = u ∙ sym (ap (λ w. (true || t) && (not true || w)) v)

    and-true : (b : Bool) → b ≡ (b && true)
    and-true true = refl
    and-true false = refl

    -- it doesn't stay
    pub out-turn : (kept : Literal → Bool) → kept a ≡ false → (q : Literal) → member q (map plain ys) ≡ (member q (map plain xs) && (not (same q a) || kept q))
    out-turn kept n q = on_side (same q a)
        (λ f. out-mine (member q (map plain ys)) (kept q) (member q (map plain ys)) (member-same q a (map plain ys) f ∙ gone) (ap kept (same-is q a f) ∙ n)
        ∙ sym (ap (λ t. t && (not (same q a) || kept q)) (was q) ∙ ap (λ t. (t || member q (map plain ys)) && (not t || kept q)) f))
        (λ f. and-true (member q (map plain ys)) ∙ sym (ap (λ t. t && (not (same q a) || kept q)) (was q) ∙ ap (λ t. (t || member q (map plain ys)) && (not t || kept q)) f))

    -- it is taken out
    pub toggled-out : (q : Literal) → member q (map plain ys) ≡ either (same q a) (member q (map plain xs))
    toggled-out q = on_side (same q a)
        (λ f. member-same q a (map plain ys) f ∙ gone ∙ sym (ap (λ t. either (same q a) t) (was q) ∙ ap (λ t. either t (t || member q (map plain ys))) f))
        (λ f. sym (ap (λ t. either (same q a) t) (was q) ∙ ap (λ t. either t (t || member q (map plain ys))) f))

    pub units-exact : (p : Literal → Bool) → count_by p (map plain xs) ≡ unit_if (p (plain x)) + count_by p (map plain ys)
    units-exact p = sym (sum_by-IsPermutation (λ y. cond (p y) 1 0) (map plain xs) (map plain (x ∷ ys)) (IsPermutation-map plain xs (x ∷ ys) h)) ∙ sum_by-cons (λ y. cond (p y) 1 0) (plain x) (map plain ys)

-- what stays
pub stays-turn : (m : Bool) (a q : Literal) (kept : Literal → Bool) → kept a ≡ true → m ≡ (m && (not (same q a) || kept q))
stays-turn m a q kept k = on_side (same q a)
    (λ f. and-with m (kept q) (ap kept (same-is q a f) ∙ k) ∙ sym (ap (λ t. m && (not t || kept q)) f))
    (λ f. and-with m true refl ∙ sym (ap (λ t. m && (not t || kept q)) f))
  where
    and-with : (m b : Bool) → b ≡ true → m ≡ (m && b)
    and-with true b e = sym e
    and-with false b e = refl

-- what comes
pub toggled-in : (l : List Literal) (a q : Literal) → member a l ≡ false → member q (last a l) ≡ either (same q a) (member q l)
toggled-in l a q n = member-last q a l ∙ on_side (same q a)
    (λ f. ap (λ t. t || member q l) f ∙ sym (ap (λ t. either t (member q l)) f ∙ ap not (member-same q a l f ∙ n)))
    (λ f. ap (λ t. t || member q l) f ∙ sym (ap (λ t. either t (member q l)) f))

-- one more of the front
pub front-more : (xs : List Literal) (i : ℕ) (a : Literal) → slice_get xs i ≡ Some a → take (i + 1) xs ≡ last a (take i xs)
front-more [] i a e = cc
front-more (x ∷ xs) zero a e = let z : x ≡ a = cc in ap (λ w. w ∷ []) z
front-more (x ∷ xs) (suc i) a e = let n : suc i + 1 ≡ suc (i + 1) = omega arith in ap (λ k. take k (x ∷ xs)) n ∙ ap (λ l. x ∷ l) (front-more xs i a e)
