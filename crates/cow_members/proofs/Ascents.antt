-- Lists that ascend strictly: what is in them, and that their members determine them.
use Rattle.std.proofs.Common.{◌≡◌, ◌≢◌, ◌≤◌, length, List, [], ◌∷◌, Bool, true, false, not, ◌||◌, ◌&&◌, cond, filter, IsPermutation, count_by, refl, sym, ap, ◌∙◌, subst, arith}
use Rattle.std.specs.List.{list_all}
use Rattle.std.specs.Ordering.{is_lt, is_eq}
use Rattle.std.specs.Cmp.{tied_itself}
use Rattle.std.specs.declared.cmp.Ordering.{Ordering}
use Rattle.std.specs.declared.cmp.Ordering.TheVariants.{Less, Equal, Greater}
use Rattle.std.proofs.lemmas.Bool.{true≢false}
use Rattle.std.proofs.lemmas.List.Sorted.{IsPermutation-cons, IsPermutation-trans, IsPermutation-insert, IsPermutation-refl, length_permutation, sum_by-IsPermutation}
use Rattle.cow_model.proofs.LiteralOrder.{literal_cmp_total, literal_cmp-IsAntisymmetric}
use Rattle.cow_model.specs.Members.{member, in_order, last, ascending, with_member, union}
use Rattle.cow_model.specs.Order.{same, below, literal_cmp}
use Rattle.cow_model.specs.declared.plain.Literal.{Literal}
use Rattle.cow_members.specs.Ascents.{IsBelow, Ascends}
use Rattle.cow_model.proofs.Ascending.{on_side, behind, ahead, rank, tied, ascending_cons}

less-by : (o : Ordering) → is_lt o ≡ true → o ≡ Less
less-by Less e = refl
less-by Equal e = cc
less-by Greater e = cc

equal-by : (o : Ordering) → is_eq o ≡ true → o ≡ Equal
equal-by Less e = cc
equal-by Equal e = refl
equal-by Greater e = cc

not-both : (o : Ordering) → is_eq o ≡ true → is_lt o ≡ false
not-both Less e = cc
not-both Equal e = refl
not-both Greater e = cc

-- `same` is equality
pub same-is : (a b : Literal) → same a b ≡ true → a ≡ b
same-is a b e = literal_cmp-IsAntisymmetric a b (equal-by (literal_cmp a b) e)

pub itself : (a : Literal) → same a a ≡ true
itself a = ap is_eq (tied_itself literal_cmp_total a)

pub differs : (a b : Literal) → a ≢ b → same a b ≡ false
differs a b d = on_side (same a b) (λ e. absurd (d (same-is a b e))) (λ e. e)

passes_on : (x y z : Literal) → below x y ≡ true → below y z ≡ true → below x z ≡ true
passes_on x y z p q = ap is_lt (literal_cmp_total.trans x y z (less-by (literal_cmp x y) p) (less-by (literal_cmp y z) q))

pub unequal : (x y : Literal) → below x y ≡ true → same y x ≡ false
unequal x y lt = on_side (same y x)
    (λ e. absurd (true≢false (sym lt ∙ subst (λ z. below x z ≡ false) (sym (same-is y x e)) (not-both (literal_cmp x x) (itself x)))))
    (λ e. e)

or_swap : (a b c : Bool) → (a || (b || c)) ≡ (b || (a || c))
or_swap true true c = refl
or_swap true false c = refl
or_swap false b c = refl

pub or-true : (a : Bool) → (a || true) ≡ true
or-true true = refl
or-true false = refl

pub or-false : (a : Bool) → (a || false) ≡ a
or-false true = refl
or-false false = refl

or-left : (a b : Bool) → a ≡ false → (a || b) ≡ b
or-left a b e = ap (λ t. t || b) e

-- an atom that is one of the members
pub member-same : (q a : Literal) (xs : List Literal) → same q a ≡ true → member q xs ≡ member a xs
member-same q a xs e = ap (λ z. member z xs) (same-is q a e)

pub apart : (x y : Literal) → below x y ≡ true → same x y ≡ false
apart x y lt = on_side (same x y) (λ e. absurd (true≢false (sym lt ∙ not-both (literal_cmp x y) e))) (λ e. e)

-- what is above x isn't x
pub above-lacks : (x : Literal) (xs : List Literal) → IsBelow x xs → member x xs ≡ false
above-lacks x [] b = refl
above-lacks x (y ∷ ys) b = or-left (same x y) (member x ys) (apart x y b.0) ∙ above-lacks x ys b.1

above-has : (x q : Literal) (ys : List Literal) → IsBelow x ys → member q ys ≡ true → below x q ≡ true
above-has x q [] b m = absurd (true≢false (sym m))
above-has x q (y ∷ ys) b m = on_side (same q y)
    (λ e. subst (λ z. below x z ≡ true) (sym (same-is q y e)) b.0)
    (λ e. above-has x q ys b.1 (sym (or-left (same q y) (member q ys) e) ∙ m))

above-more : (x y : Literal) (zs : List Literal) → below x y ≡ true → IsBelow y zs → IsBelow x zs
above-more x y [] lt b = tt
above-more x y (z ∷ zs) lt b = (passes_on x y z lt b.0, above-more x y zs lt b.1)

-- ---- an atom placed in order
pub member-in_order : (q a : Literal) (zs : List Literal) → member q (in_order a zs) ≡ (same q a || member q zs)
member-in_order q a [] = refl
member-in_order q a (z ∷ zs) = on_side (below z a)
    (λ e. ap (member q) (behind a z zs e) ∙ ap (λ t. same q z || t) (member-in_order q a zs) ∙ or_swap (same q z) (same q a) (member q zs))
    (λ e. ap (member q) (ahead a z zs e))

below-in_order : (x a : Literal) (zs : List Literal) → below x a ≡ true → IsBelow x zs → IsBelow x (in_order a zs)
below-in_order x a [] lt b = (lt, tt)
below-in_order x a (z ∷ zs) lt b = on_side (below z a)
    (λ e. subst (IsBelow x) (sym (behind a z zs e)) (b.0, below-in_order x a zs lt b.1))
    (λ e. subst (IsBelow x) (sym (ahead a z zs e)) (lt, b))

goes-above : (a z : Literal) → same a z ≡ false → below z a ≡ false → below a z ≡ true
goes-above a z d e = on_side (below a z) (λ f. f) (λ f. absurd (true≢false (sym (subst (λ y. same a y ≡ true) (tied a z f e) (itself a)) ∙ d)))

pub or-no : (a b : Bool) → (a || b) ≡ false → (a ≡ false) × (b ≡ false)
or-no true b e = cc
or-no false b e = (refl, e)

pub ascends-in_order : (a : Literal) (zs : List Literal) → Ascends zs → member a zs ≡ false → Ascends (in_order a zs)
ascends-in_order a [] s m = (tt, tt)
ascends-in_order a (z ∷ zs) s m =
    let n = or-no (same a z) (member a zs) m in
    on_side (below z a)
    (λ e. subst Ascends (sym (behind a z zs e)) (below-in_order z a zs e s.0, ascends-in_order a zs s.1 n.1))
    (λ e. let lt = goes-above a z n.0 e in subst Ascends (sym (ahead a z zs e)) ((lt, above-more a z zs lt s.0), s))

-- ---- what an ascending list with an atom was without it
below-out : (x a : Literal) (zs : List Literal) → IsBelow x (in_order a zs) → IsBelow x zs
below-out x a [] b = tt
below-out x a (z ∷ zs) b = on_side (below z a)
    (λ e. let c : IsBelow x (z ∷ in_order a zs) = subst (IsBelow x) (behind a z zs e) b in (c.0, below-out x a zs c.1))
    (λ e. let c : IsBelow x (a ∷ z ∷ zs) = subst (IsBelow x) (ahead a z zs e) b in c.1)

pub ascends-out : (a : Literal) (zs : List Literal) → Ascends (in_order a zs) → (member a zs ≡ false) × Ascends zs
ascends-out a [] s = (refl, tt)
ascends-out a (z ∷ zs) s = on_side (below z a)
    (λ e. let t : Ascends (z ∷ in_order a zs) = subst Ascends (behind a z zs e) s in
    let rest = ascends-out a zs t.1 in
    (or-left (same a z) (member a zs) (unequal z a e) ∙ rest.0, (below-out z a zs t.0, rest.1)))
    (λ e. let t : Ascends (a ∷ z ∷ zs) = subst Ascends (ahead a z zs e) s in (above-lacks a (z ∷ zs) t.0, t.1))

-- ---- lists of the same members are one
tail-of : (x q : Literal) (xs : List Literal) → IsBelow x xs → member q xs ≡ (not (same q x) && member q (x ∷ xs))
tail-of x q xs b = on_side (same q x)
    (λ e. member-same q x xs e ∙ above-lacks x xs b ∙ sym (ap (λ t. not t && (t || member q xs)) e))
    (λ e. sym (ap (λ t. not t && (t || member q xs)) e))

first-is : (x y : Literal) (xs ys : List Literal) → IsBelow x xs → IsBelow y ys → ((q : Literal) → member q (x ∷ xs) ≡ member q (y ∷ ys)) → x ≡ y
first-is x y xs ys bx by h = on_side (same x y) (same-is x y)
    (λ e. on_side (same y x) (λ f. sym (same-is y x f))
    (λ f.
    let lt = above-has y x ys by (sym (or-left (same x y) (member x ys) e) ∙ sym (h x) ∙ ap (λ t. t || member x xs) (itself x)) in
    let gt = above-has x y xs bx (sym (or-left (same y x) (member y xs) f) ∙ h y ∙ ap (λ t. t || member y ys) (itself y)) in
    absurd (true≢false (sym gt ∙ rank.one_way y x lt))))

pub same-members : (xs ys : List Literal) → Ascends xs → Ascends ys → ((q : Literal) → member q xs ≡ member q ys) → xs ≡ ys
same-members [] [] s t h = refl
same-members [] (y ∷ ys) s t h = absurd (true≢false (sym (h y ∙ ap (λ b. b || member y ys) (itself y))))
same-members (x ∷ xs) [] s t h = absurd (true≢false (sym (ap (λ b. b || member x xs) (itself x)) ∙ h x))
same-members (x ∷ xs) (y ∷ ys) s t h =
    let e = first-is x y xs ys s.0 t.0 h in
    ap (λ z. z ∷ xs) e ∙ ap (λ l. y ∷ l) (same-members xs ys s.1 t.1 (λ q.
    tail-of x q xs s.0 ∙ ap (λ t. not (same q x) && t) (h q) ∙ ap (λ z. not (same q z) && member q (y ∷ ys)) e ∙ sym (tail-of y q ys t.0)))

-- ---- the ascending list of any list
pub member-ascending : (q : Literal) (xs : List Literal) → member q (ascending xs) ≡ member q xs
member-ascending q [] = refl
member-ascending q (x ∷ xs) = ap (member q) (ascending_cons x xs) ∙ member-in_order q x (ascending xs) ∙ ap (λ t. same q x || t) (member-ascending q xs)

pub permutes : (xs : List Literal) → IsPermutation xs (ascending xs)
permutes [] = IsPermutation-refl []
permutes (x ∷ xs) = subst (IsPermutation (x ∷ xs)) (sym (ascending_cons x xs))
    (IsPermutation-trans (x ∷ xs) (x ∷ ascending xs) (in_order x (ascending xs)) (IsPermutation-cons x xs (ascending xs) (permutes xs)) (IsPermutation-insert (ascending xs) _ x))

pub length-ascending : (xs : List Literal) → length (ascending xs) ≡ length xs
length-ascending xs = length_permutation xs (ascending xs) (permutes xs)

pub count_by-ascending : (p : Literal → Bool) (xs : List Literal) → count_by p (ascending xs) ≡ count_by p xs
count_by-ascending p xs = sum_by-IsPermutation (λ a. cond (p a) 1 0) xs (ascending xs) (permutes xs)

-- ---- the operations of sets, where a new member may be placed anywhere
or_assoc : (a b c : Bool) → ((a || b) || c) ≡ (b || (a || c))
or_assoc true true c = refl
or_assoc true false c = refl
or_assoc false b c = refl

module _ (place : Literal → List Literal → List Literal) (places : (q a : Literal) (xs : List Literal) → member q (place a xs) ≡ (same q a || member q xs)) where
  there-is : (q a : Literal) (xs : List Literal) → member a xs ≡ true → member q xs ≡ (same q a || member q xs)
  there-is q a xs m = on_side (same q a)
      (λ e. member-same q a xs e ∙ m ∙ sym (ap (λ t. t || member q xs) e))
      (λ e. sym (or-left (same q a) (member q xs) e))

  pub member-with : (q a : Literal) (xs : List Literal) → member q (with_member place xs a) ≡ (same q a || member q xs)
  member-with q a xs = on_side (member a xs)
      (λ e. ap (λ t. member q (cond t xs (place a xs))) e ∙ there-is q a xs e)
      (λ e. ap (λ t. member q (cond t xs (place a xs))) e ∙ places q a xs)

  pub member-union : (q : Literal) (xs ys : List Literal) → member q (union place xs ys) ≡ (member q xs || member q ys)
  member-union q xs [] = sym (or-false (member q xs))
  member-union q xs (y ∷ ys) = member-union q (with_member place xs y) ys ∙ ap (λ t. t || member q ys) (member-with q y xs) ∙ or_assoc (same q y) (member q xs) (member q ys)

pub member-last : (q a : Literal) (xs : List Literal) → member q (last a xs) ≡ (same q a || member q xs)
member-last q a [] = refl
member-last q a (x ∷ xs) = ap (λ t. same q x || t) (member-last q a xs) ∙ or_swap (same q x) (same q a) (member q xs)

pub ascends-with : (a : Literal) (xs : List Literal) → Ascends xs → Ascends (with_member in_order xs a)
ascends-with a xs s = on_side (member a xs)
    (λ e. subst (λ t. Ascends (cond t xs (in_order a xs))) (sym e) s)
    (λ e. subst (λ t. Ascends (cond t xs (in_order a xs))) (sym e) (ascends-in_order a xs s e))

pub ascends-union : (xs ys : List Literal) → Ascends xs → Ascends (union in_order xs ys)
ascends-union xs [] s = s
ascends-union xs (y ∷ ys) s = ascends-union (with_member in_order xs y) ys (ascends-with y xs s)

no-and : (a b : Bool) → b ≡ false → (a && b) ≡ false
no-and true b z = z
no-and false b z = refl

module _ (p : Literal → Bool) where
  pub member-filter : (q : Literal) (xs : List Literal) → member q (filter p xs) ≡ (member q xs && p q)
  member-filter q [] = refl
  member-filter q (x ∷ xs) = on_side (p x)
      (λ e. ap (λ t. member q (cond t (x ∷ filter p xs) (filter p xs))) e ∙ ap (λ t. same q x || t) (member-filter q xs) ∙ kept e)
      (λ e. ap (λ t. member q (cond t (x ∷ filter p xs) (filter p xs))) e ∙ member-filter q xs ∙ gone e)
    where
      kept : p x ≡ true → (same q x || (member q xs && p q)) ≡ ((same q x || member q xs) && p q)
      kept e = on_side (same q x)
          (λ f. ap (λ t. t || (member q xs && p q)) f ∙ sym (ap (λ t. (t || member q xs) && p q) f ∙ ap p (same-is q x f) ∙ e))
          (λ f. ap (λ t. t || (member q xs && p q)) f ∙ sym (ap (λ t. (t || member q xs) && p q) f))

      gone : p x ≡ false → (member q xs && p q) ≡ ((same q x || member q xs) && p q)
      gone e = on_side (same q x)
          (λ f. no-and (member q xs) (p q) (ap p (same-is q x f) ∙ e) ∙ sym (ap (λ t. (t || member q xs) && p q) f ∙ ap p (same-is q x f) ∙ e))
          (λ f. sym (ap (λ t. (t || member q xs) && p q) f))

  below-filter : (x : Literal) (xs : List Literal) → IsBelow x xs → IsBelow x (filter p xs)
  below-filter x [] b = tt
  below-filter x (y ∷ ys) b = on_side (p y)
      (λ e. subst (λ t. IsBelow x (cond t (y ∷ filter p ys) (filter p ys))) (sym e) (b.0, below-filter x ys b.1))
      (λ e. subst (λ t. IsBelow x (cond t (y ∷ filter p ys) (filter p ys))) (sym e) (below-filter x ys b.1))

  pub ascends-filter : (xs : List Literal) → Ascends xs → Ascends (filter p xs)
  ascends-filter [] s = tt
  ascends-filter (x ∷ xs) s = on_side (p x)
      (λ e. subst (λ t. Ascends (cond t (x ∷ filter p xs) (filter p xs))) (sym e) (below-filter x xs s.0, ascends-filter xs s.1))
      (λ e. subst (λ t. Ascends (cond t (x ∷ filter p xs) (filter p xs))) (sym e) (ascends-filter xs s.1))

-- ---- what holds of all members
by-both : (a b : Bool) → (a ≡ true → b ≡ true) → (b ≡ true → a ≡ true) → a ≡ b
by-both true true f g = refl
by-both true false f g = sym (f refl)
by-both false true f g = g refl
by-both false false f g = refl

pub and-both : (a b : Bool) → (a && b) ≡ true → (a ≡ true) × (b ≡ true)
and-both true b e = (refl, e)
and-both false b e = cc

pub all-each : (p : Literal → Bool) (xs : List Literal) → list_all p xs ≡ true → (q : Literal) → member q xs ≡ true → p q ≡ true
all-each p [] all q m = absurd (true≢false (sym m))
all-each p (x ∷ xs) all q m =
    let both = and-both (p x) (list_all p xs) all in
    on_side (same q x)
    (λ e. ap p (same-is q x e) ∙ both.0)
    (λ e. all-each p xs both.1 q (sym (or-left (same q x) (member q xs) e) ∙ m))

pub each-all : (p : Literal → Bool) (xs : List Literal) → ((q : Literal) → member q xs ≡ true → p q ≡ true) → list_all p xs ≡ true
each-all p [] each = refl
each-all p (x ∷ xs) each =
    ap (λ t. t && list_all p xs) (each x (ap (λ t. t || member x xs) (itself x)))
    ∙ each-all p xs (λ q m. each q (ap (λ t. same q x || t) m ∙ or-true (same q x)))

pub all-alike : (p r : Literal → Bool) (xs ys : List Literal) → ((q : Literal) → member q xs ≡ member q ys) → ((q : Literal) → p q ≡ r q) → list_all p xs ≡ list_all r ys
all-alike p r xs ys h e = by-both (list_all p xs) (list_all r ys)
    (λ all. each-all r ys (λ q m. sym (e q) ∙ all-each p xs all q (h q ∙ m)))
    (λ all. each-all p xs (λ q m. e q ∙ all-each r ys all q (sym (h q) ∙ m)))

not-back : (a : Bool) → not a ≡ true → a ≡ false
not-back true e = cc
not-back false e = refl

-- that no member of one is in the other may be asked of either
pub apart-alike : (xs ys : List Literal) → list_all (λ a. not (member a ys)) xs ≡ list_all (λ a. not (member a xs)) ys
apart-alike xs ys = by-both (list_all (λ a. not (member a ys)) xs) (list_all (λ a. not (member a xs)) ys) (turned xs ys) (turned ys xs)
  where
    turned : (us vs : List Literal) → list_all (λ a. not (member a vs)) us ≡ true → list_all (λ a. not (member a us)) vs ≡ true
    turned us vs all = each-all (λ a. not (member a us)) vs (λ q m. on_side (member q us)
        (λ e. absurd (true≢false (sym m ∙ not-back (member q vs) (all-each (λ a. not (member a vs)) us all q e))))
        (λ e. ap not e))

-- ---- ascending lists of which one has the other's members
abbrev pub Within : List Literal → List Literal → Type 0
Within us vs = (q : Literal) → member q us ≡ true → member q vs ≡ true

within-tails : (x y : Literal) (us vs : List Literal) → IsBelow x us → same x y ≡ true → Within (x ∷ us) (y ∷ vs) → Within us vs
within-tails x y us vs b e h q m = on_side (same q y)
    (λ f. absurd (true≢false (sym m ∙ member-same q x us (subst (λ z. same q z ≡ true) (sym (same-is x y e)) f) ∙ above-lacks x us b)))
    (λ f. sym (or-left (same q y) (member q vs) f) ∙ h q (ap (λ t. same q x || t) m ∙ or-true (same q x)))

within-past : (x y : Literal) (us vs : List Literal) → IsBelow x us → IsBelow y vs → same x y ≡ false → Within (x ∷ us) (y ∷ vs) → Within (x ∷ us) vs
within-past x y us vs bx by d h q m = on_side (same q y)
    (λ f.
    let has : member y (x ∷ us) ≡ true = sym (member-same q y (x ∷ us) f) ∙ m in
    let later : member x vs ≡ true = sym (or-left (same x y) (member x vs) d) ∙ h x (ap (λ t. t || member x us) (itself x)) in
    let gt = above-has y x vs by later in
    on_side (same y x)
    (λ g. absurd (true≢false (sym (subst (λ z. same x z ≡ true) (sym (same-is y x g)) (itself x)) ∙ d)))
    (λ g. absurd (true≢false (sym gt ∙ rank.one_way x y (above-has x y us bx (sym (or-left (same y x) (member y us) g) ∙ has))))))
    (λ f. sym (or-left (same q y) (member q vs) f) ∙ h q m)

pub no-longer : (us vs : List Literal) → Ascends us → Ascends vs → Within us vs → length us ≤ length vs
no-longer [] vs s t h = omega arith
no-longer (x ∷ us) [] s t h = absurd (true≢false (sym (h x (ap (λ b. b || member x us) (itself x)))))
no-longer (x ∷ us) (y ∷ vs) s t h = on_side (same x y)
    (λ e. let n = no-longer us vs s.1 t.1 (within-tails x y us vs s.0 e h) in omega (arith, n))
    (λ e. let n = no-longer (x ∷ us) vs s t.1 (within-past x y us vs s.0 t.0 e h) in omega (arith, n))

pub as-long : (us vs : List Literal) → Ascends us → Ascends vs → Within us vs → length vs ≤ length us → us ≡ vs
as-long [] [] s t h l = refl
as-long [] (y ∷ vs) s t h l = absurd (omega arith)
as-long (x ∷ us) [] s t h l = absurd (true≢false (sym (h x (ap (λ b. b || member x us) (itself x)))))
as-long (x ∷ us) (y ∷ vs) s t h l = on_side (same x y)
    (λ e. ap (λ z. z ∷ us) (same-is x y e) ∙ ap (λ r. y ∷ r) (as-long us vs s.1 t.1 (within-tails x y us vs s.0 e h) (omega arith)))
    (λ e. let n = no-longer (x ∷ us) vs s t.1 (within-past x y us vs s.0 t.0 e h) in absurd (omega (arith, n)))
