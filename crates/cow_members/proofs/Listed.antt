-- What changes by which members keep their order leave of the list of members.
use Rattle.std.proofs.Common.{◌≡◌, ℕ, zero, suc, ◌+◌, ◌<◌, ◌≤◌, length, map, take, drop, filter, insert, remove, count_by, cond, leb, slice_get, Option, Some, None, List, [], ◌∷◌, ◌++◌, Bool, true, false, not, ◌||◌, ◌&&◌, refl, sym, ap, ◌∙◌, subst, arith, inl, inr, append_assoc}
use Rattle.std.specs.Prelude.{◌⊎◌, ⊤, option_map, IfSome, IfNone}
use Rattle.std.specs.List.{list_all, position_or_len}
use Rattle.std.proofs.lemmas.Bool.{true≢false}
use Rattle.std.proofs.lemmas.List.{append-nil, length_push, drop_all, take_all, take_at, drop_at, take-append-le, drop-append-le}
use Rattle.std.proofs.lemmas.List.Elements.{filter-append}
use Rattle.std.proofs.lemmas.List.Sums.{sum_by-cons, sum_by-append}
use Rattle.std.proofs.lemmas.Option.{slice_get_within, slice_get-map}
use borrow.Author.Tests.{lt-ltb, le-ltb}
use Rattle.cow_model.proofs.Ascending.{on_side, ascending_cons}
use Rattle.cow_model.specs.Members.{member, ascending, last, place_in, union, minus, symdiff}
use Rattle.cow_model.specs.Order.{same}
use Rattle.cow_model.specs.declared.plain.Literal.{Literal}
use Rattle.cow_members.specs.Ascents.{Ascends}
use Rattle.cow_members.specs.Orders.{staying}
use Rattle.cow_members.specs.Sets.{lacking, without}
use Rattle.cow_members.proofs.Ascents.{itself, differs, or-no, and-both, member-ascending, member-last, member-filter, ascends-out}
use Rattle.cow_members.proofs.Keys.{without-none}
use Rattle.cow_members.proofs.Operations.{lacking-there, lacking-more}

-- ---- lists without repeats
abbrev pub Distinct : List Literal → Type 0
Distinct [] = ⊤
Distinct (x ∷ xs) = (member x xs ≡ false) × Distinct xs

pub distinct-by : (xs : List Literal) → Ascends (ascending xs) → Distinct xs
distinct-by [] s = tt
distinct-by (x ∷ xs) s =
    let out = ascends-out x (ascending xs) (subst Ascends (ascending_cons x xs) s) in
    (sym (member-ascending x xs) ∙ out.0, distinct-by xs out.1)

pub has-member : (xs : List Literal) (a : Literal) (i : ℕ) → slice_get xs i ≡ Some a → member a xs ≡ true
has-member [] a i e = cc
has-member (x ∷ xs) a zero e = let z : x ≡ a = cc in ap (λ t. t || member a xs) (ap (same a) z ∙ itself a)
has-member (x ∷ xs) a (suc i) e = on_side (same a x)
    (λ f. ap (λ t. t || member a xs) f)
    (λ f. ap (λ t. t || member a xs) f ∙ has-member xs a i e)

-- what stands behind an item is another
behind-differs : (x a : Literal) (xs : List Literal) (i : ℕ) → member x xs ≡ false → slice_get xs i ≡ Some a → x ≡ a → ⊥
behind-differs x a xs i gone e w = true≢false (sym (has-member xs a i e) ∙ subst (λ z. member z xs ≡ false) w gone)

-- ---- where a member stands
found-len : (a : Literal) (xs : List Literal) (i : ℕ) → Distinct xs → slice_get xs i ≡ Some a → position_or_len (same a) xs ≡ i
found-len a [] i d e = cc
found-len a (x ∷ xs) zero d e = let z : x ≡ a = cc in ap (λ t. cond (not t) (1 + position_or_len (same a) xs) 0) (ap (same a) z ∙ itself a)
found-len a (x ∷ xs) (suc i) d e =
    let one : 1 + i ≡ suc i = omega arith in
    ap (λ t. cond (not t) (1 + position_or_len (same a) xs) 0) (differs a x (λ w. behind-differs x a xs i d.0 e (sym w)))
    ∙ ap (λ n. 1 + n) (found-len a xs i d.1 e) ∙ one

none-len : (a : Literal) (xs : List Literal) → member a xs ≡ false → position_or_len (same a) xs ≡ length xs
none-len a [] m = refl
none-len a (x ∷ xs) m =
    let n = or-no (same a x) (member a xs) m in
    let one : 1 + length xs ≡ suc (length xs) = omega arith in
    ap (λ t. cond (not t) (1 + position_or_len (same a) xs) 0) n.0 ∙ ap (λ k. 1 + k) (none-len a xs n.1) ∙ one

pub place-found : (a : Literal) (xs : List Literal) (i : ℕ) → Distinct xs → slice_get xs i ≡ Some a → Some i ≡ place_in a xs
place-found a xs i d e =
    sym (ap (λ k. cond {A = Option ℕ} (leb (suc k) (length xs)) (Some k) None) (found-len a xs i d e)
    ∙ ap (λ t. cond {A = Option ℕ} t (Some i) None) (lt-ltb i (length xs) (slice_get_within xs i a e)))

pub place-none : (a : Literal) (xs : List Literal) → member a xs ≡ false → None ≡ place_in a xs
place-none a xs m =
    sym (ap (λ k. cond {A = Option ℕ} (leb (suc k) (length xs)) (Some k) None) (none-len a xs m)
    ∙ ap (λ t. cond {A = Option ℕ} t (Some (length xs)) None) (le-ltb (length xs) (length xs) (omega arith)))

-- what a look-up tells of a row of distinct keys
pub place-told : {K : Type 0} (plain : K → Literal) (o : Option ℕ) (a : Literal) (xs : List K) → Ascends (ascending (map plain xs))
    → IfSome o (λ i. option_map plain (slice_get xs i) ≡ Some a) → IfNone o (member a (map plain xs) ≡ false) → o ≡ place_in a (map plain xs)
place-told plain None a xs s found absent = place-none a (map plain xs) absent
place-told plain (Some i) a xs s found absent = place-found a (map plain xs) i (distinct-by (map plain xs) s) (slice_get-map plain xs i ∙ found)

-- ---- a member is taken out
pub remove-without : (a : Literal) (xs : List Literal) (i : ℕ) → Distinct xs → slice_get xs i ≡ Some a → remove xs i ≡ without a xs
remove-without a [] i d e = cc
remove-without a (x ∷ xs) zero d e =
    let z : x ≡ a = cc in
    without-none a xs (subst (λ w. member w xs ≡ false) z d.0)
    ∙ sym (ap (λ t. cond (not (t || false)) (x ∷ without a xs) (without a xs)) (ap (λ w. same w a) z ∙ itself a))
remove-without a (x ∷ xs) (suc i) d e =
    ap (λ l. x ∷ l) (remove-without a xs i d.1 e)
    ∙ sym (ap (λ t. cond (not (t || false)) (x ∷ without a xs) (without a xs)) (differs x a (behind-differs x a xs i d.0 e)))

module _ {A B : Type 0} (f : A → B) where
  pub map-remove : (xs : List A) (i : ℕ) → map f (remove xs i) ≡ remove (map f xs) i
  map-remove [] zero = refl
  map-remove [] (suc i) = refl
  map-remove (x ∷ xs) zero = refl
  map-remove (x ∷ xs) (suc i) = ap (λ l. f x ∷ l) (map-remove xs i)

  pub map-insert : (xs : List A) (i : ℕ) (y : A) → map f (insert xs i y) ≡ insert (map f xs) i (f y)
  map-insert [] zero y = refl
  map-insert [] (suc i) y = refl
  map-insert (x ∷ xs) zero y = refl
  map-insert (x ∷ xs) (suc i) y = ap (λ l. f x ∷ l) (map-insert xs i y)

-- ---- the members that stay
module _ (p : Literal → Bool) where
  pub filter-all : (xs : List Literal) → list_all p xs ≡ true → xs ≡ filter p xs
  filter-all [] e = refl
  filter-all (x ∷ xs) e =
      let both = and-both (p x) (list_all p xs) e in
      ap (λ l. x ∷ l) (filter-all xs both.1) ∙ sym (ap (λ t. cond t (x ∷ filter p xs) (filter p xs)) both.0)

  -- all of them lie before the end
  pub whole : (end : ℕ) (xs : List Literal) → length xs ≤ end → staying p end xs ≡ filter p xs
  whole end xs l = ap (λ m. filter p m ++ drop end xs) (take_all end xs l) ∙ ap (λ m. filter p xs ++ m) (drop_all end xs l) ∙ append-nil (filter p xs)

  -- one more that stays
  pub staying-kept : (end : ℕ) (xs : List Literal) (a : Literal) → (end ≤ length xs) ⊎ ((length xs < end) × (p a ≡ true)) → staying p end (xs ++ a ∷ []) ≡ staying p end xs ++ a ∷ []
  staying-kept end xs a (inl l) =
      ap (λ l. filter p l ++ drop end (xs ++ a ∷ [])) (take-append-le end xs (a ∷ []) l)
      ∙ ap (λ l. filter p (take end xs) ++ l) (drop-append-le end xs (a ∷ []) l)
      ∙ sym (append_assoc (filter p (take end xs)) (drop end xs) (a ∷ []))
  staying-kept end xs a (inr l) = whole end (xs ++ a ∷ []) (omega (arith, length_push xs a, l.0)) ∙ filter-append p xs (a ∷ [])
      ∙ ap (λ t. filter p xs ++ cond t (a ∷ []) []) l.1 ∙ ap (λ l. l ++ a ∷ []) (sym (whole end xs (omega (arith, l.0))))

  -- one more that doesn't
  pub staying-gone : (end : ℕ) (xs : List Literal) (a : Literal) → length xs < end → p a ≡ false → staying p end (xs ++ a ∷ []) ≡ staying p end xs
  staying-gone end xs a l n = whole end (xs ++ a ∷ []) (omega (arith, length_push xs a, l)) ∙ filter-append p xs (a ∷ [])
      ∙ ap (λ t. filter p xs ++ cond t (a ∷ []) []) n ∙ append-nil (filter p xs) ∙ sym (whole end xs (omega (arith, l)))

  -- those from the end on stay
  pub staying-behind : (xs ys : List Literal) (n : ℕ) → length xs ≡ n → staying p n (xs ++ ys) ≡ filter p xs ++ ys
  staying-behind xs ys n e = ap (λ l. filter p l ++ drop n (xs ++ ys)) (take_at xs ys n e) ∙ ap (λ l. filter p xs ++ l) (drop_at xs ys n e)

  pub distinct-filter : (xs : List Literal) → Distinct xs → Distinct (filter p xs)
  distinct-filter [] d = tt
  distinct-filter (x ∷ xs) d = on_side (p x)
      (λ e. subst (λ t. Distinct (cond t (x ∷ filter p xs) (filter p xs))) (sym e) (member-filter p x xs ∙ ap (λ t. t && p x) d.0, distinct-filter xs d.1))
      (λ e. subst (λ t. Distinct (cond t (x ∷ filter p xs) (filter p xs))) (sym e) (distinct-filter xs d.1))

  -- what passes has no more units
  pub count-filter : (q : Literal → Bool) (xs : List Literal) → count_by q (filter p xs) ≤ count_by q xs
  count-filter q [] = omega arith
  count-filter q (x ∷ xs) = on_side (p x)
      (λ e. subst (λ t. count_by q (cond t (x ∷ filter p xs) (filter p xs)) ≤ count_by q (x ∷ xs)) (sym e)
      (omega (arith, sum_by-cons (λ y. cond (q y) 1 0) x (filter p xs), sum_by-cons (λ y. cond (q y) 1 0) x xs, count-filter q xs)))
      (λ e. subst (λ t. count_by q (cond t (x ∷ filter p xs) (filter p xs)) ≤ count_by q (x ∷ xs)) (sym e)
      (omega (arith, sum_by-cons (λ y. cond (q y) 1 0) x xs, count-filter q xs)))

-- ---- the members of either
-- one that isn't among the others makes no difference to them
minus-more : (y : Literal) (xs ys : List Literal) → member y ys ≡ false → minus ys (last y xs) ≡ minus ys xs
minus-more y xs [] m = refl
minus-more y xs (z ∷ zs) m =
    let n = or-no (same y z) (member y zs) m in
    let apart : same z y ≡ false = differs z y (λ w. true≢false (sym (itself y) ∙ ap (same y) (sym w) ∙ n.0)) in
    ap (λ t. cond (not t) (z ∷ minus zs (last y xs)) (minus zs (last y xs))) (member-last z y xs ∙ ap (λ t. t || member z xs) apart)
    ∙ ap (λ l. cond (not (member z xs)) (z ∷ l) l) (minus-more y xs zs n.1)

pub union-parts : (xs ys : List Literal) → Distinct ys → union last xs ys ≡ xs ++ minus ys xs
union-parts xs [] d = sym (append-nil xs)
union-parts xs (y ∷ ys) d = on_side (member y xs)
    (λ e. ap (λ t. union last (cond t xs (xs ++ y ∷ [])) ys) e ∙ union-parts xs ys d.1 ∙ ap (λ t. xs ++ cond (not t) (y ∷ minus ys xs) (minus ys xs)) (sym e))
    (λ e. ap (λ t. union last (cond t xs (xs ++ y ∷ [])) ys) e ∙ union-parts (xs ++ y ∷ []) ys d.1 ∙ append_assoc xs (y ∷ []) (minus ys (xs ++ y ∷ []))
    ∙ ap (λ l. xs ++ y ∷ l) (minus-more y xs ys d.0) ∙ ap (λ t. xs ++ cond (not t) (y ∷ minus ys xs) (minus ys xs)) (sym e))

-- none of the others is missing
pub union-none : (xs ys : List Literal) → lacking xs ys ≡ 0 → xs ≡ union last xs ys
union-none xs [] n = refl
union-none xs (y ∷ ys) n = on_side (member y xs)
    (λ e. union-none xs ys (sym (lacking-there xs ys y e) ∙ n) ∙ ap (λ t. union last (cond t xs (xs ++ y ∷ [])) ys) (sym e))
    (λ e. absurd (omega (arith, n, lacking-more xs ys y e)))

-- how many units the members of either have
pub union-units : (q : Literal → Bool) (xs ys : List Literal) → Distinct ys → count_by q (union last xs ys) ≤ count_by q xs + count_by q ys
union-units q xs ys d = omega (arith, ap (count_by q) (union-parts xs ys d), sum_by-append (λ y. cond (q y) 1 0) xs (minus ys xs), count-filter (λ a. not (member a xs)) q ys)

-- ---- the members of one alone
minus-apart : (us vs : List Literal) → ((q : Literal) → member q us ≡ true → member q vs ≡ false) → minus us vs ≡ us
minus-apart us vs h = sym (filter-all (λ a. not (member a vs)) us (each us h))
  where
    each : (us : List Literal) → ((q : Literal) → member q us ≡ true → member q vs ≡ false) → list_all (λ a. not (member a vs)) us ≡ true
    each [] h = refl
    each (u ∷ us) h = ap (λ t. not t && list_all (λ a. not (member a vs)) us) (h u (ap (λ t. t || member u us) (itself u)))
        ∙ each us (λ q m. h q (on_side (same q u) (λ f. ap (λ t. t || member q us) f) (λ f. ap (λ t. t || member q us) f ∙ m)))

both-no : (a b c : Bool) → (a && not b) ≡ true → (b && c) ≡ false
both-no a true c e = absurd (both-false a (sym e))
  where
    both-false : (a : Bool) → true ≡ (a && false) → ⊥
    both-false true e = true≢false e
    both-false false e = true≢false e
both-no a false c e = refl

pub symdiff-parts : (xs ys : List Literal) → Distinct ys → symdiff last xs ys ≡ minus xs ys ++ minus ys xs
symdiff-parts xs ys d =
    union-parts (minus xs ys) (minus ys xs) (distinct-filter (λ a. not (member a xs)) ys d)
    ∙ ap (λ l. minus xs ys ++ l) (minus-apart (minus ys xs) (minus xs ys) (λ q m.
    member-filter (λ a. not (member a ys)) q xs ∙ both-no (member q ys) (member q xs) (not (member q ys)) (sym (member-filter (λ a. not (member a xs)) q ys) ∙ m)))

-- the others' new members come last, then those of both go
pub toggled : (xs ys : List Literal) (n : ℕ) → Distinct ys → length xs ≡ n → staying (λ a. not (member a ys)) n (union last xs ys) ≡ symdiff last xs ys
toggled xs ys n d e = ap (staying (λ a. not (member a ys)) n) (union-parts xs ys d) ∙ staying-behind (λ a. not (member a ys)) xs (minus ys xs) n e ∙ sym (symdiff-parts xs ys d)

pub toggled-nothing : (xs : List Literal) → xs ≡ symdiff last xs []
toggled-nothing xs = sym (minus-apart xs [] (λ q m. refl))
