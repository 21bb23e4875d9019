-- The set of the members that each operation leaves, whatever their positions.
use Rattle.std.proofs.Common.{◌≡◌, ◌+◌, ◌<◌, ◌≤◌, length, List, [], ◌∷◌, ◌++◌, Bool, true, false, not, ◌||◌, ◌&&◌, cond, filter, refl, sym, ap, ◌∙◌, subst, arith}
use Rattle.std.specs.List.{list_all}
use Rattle.std.proofs.lemmas.Bool.{true≢false}
use Rattle.std.proofs.lemmas.List.{length_push}
use Rattle.std.proofs.lemmas.List.Sums.{sum_by-cons}
use Rattle.cow_model.specs.Members.{member, in_order, last, ascending, union, minus, symdiff, subset, disjoint}
use Rattle.cow_model.specs.Order.{same}
use Rattle.cow_model.specs.declared.plain.Literal.{Literal}
use Rattle.cow_members.specs.Ascents.{Ascends}
use Rattle.cow_model.proofs.Ascending.{on_side}
use Rattle.cow_members.proofs.Ascents.{same-members, member-same, member-ascending, member-in_order, member-last, member-union, member-filter, ascends-in_order, ascends-union, ascends-filter, all-each, each-all, all-alike, count_by-ascending, apart-alike, no-longer, as-long, length-ascending, or-true}
use Rattle.cow_members.specs.Sets.{kept_by, stays, lacking, either, without}

-- ---- union
pub set-union : (xs ys zs : List Literal) → Ascends (ascending xs) → Ascends (ascending zs) → zs ≡ union last xs ys → ascending zs ≡ union in_order (ascending xs) (ascending ys)
set-union xs ys zs s t e = same-members (ascending zs) (union in_order (ascending xs) (ascending ys)) t (ascends-union (ascending xs) (ascending ys) s) (λ q.
    member-ascending q zs ∙ ap (member q) e ∙ member-union last member-last q xs ys
    ∙ sym (member-union in_order member-in_order q (ascending xs) (ascending ys) ∙ ap (λ t. t || member q (ascending ys)) (member-ascending q xs) ∙ ap (λ t. member q xs || t) (member-ascending q ys)))

-- one more of the others
lacking-cons : (xs ys : List Literal) (y : Literal) → lacking xs (y ∷ ys) ≡ cond (not (member y xs)) 1 0 + lacking xs ys
lacking-cons xs ys y = sum_by-cons (λ a. cond (not (member a xs)) 1 0) y ys

pub lacking-there : (xs ys : List Literal) (y : Literal) → member y xs ≡ true → lacking xs (y ∷ ys) ≡ lacking xs ys
lacking-there xs ys y e = lacking-cons xs ys y ∙ ap (λ t. cond (not t) 1 0 + lacking xs ys) e ∙ omega arith

pub lacking-more : (xs ys : List Literal) (y : Literal) → member y xs ≡ false → lacking xs (y ∷ ys) ≡ 1 + lacking xs ys
lacking-more xs ys y e = lacking-cons xs ys y ∙ ap (λ t. cond (not t) 1 0 + lacking xs ys) e

-- none of the others is missing
none-lacking : (xs ys : List Literal) → lacking xs ys ≡ 0 → (q : Literal) → member q ys ≡ true → member q xs ≡ true
none-lacking xs [] n q m = absurd (true≢false (sym m))
none-lacking xs (y ∷ ys) n q m = on_side (member y xs)
    (λ e. on_side (same q y)
    (λ f. member-same q y xs f ∙ e)
    (λ f. none-lacking xs ys (sym (lacking-there xs ys y e) ∙ n) q (sym (ap (λ t. t || member q ys) f) ∙ m)))
    (λ e. absurd (omega (arith, n, lacking-more xs ys y e)))

and-both : (a b : Bool) → (a && b) ≡ true → (a ≡ true) × (b ≡ true)
and-both true b e = (refl, e)
and-both false b e = absurd (true≢false (sym e))

pub all-there : (xs ys : List Literal) → list_all (λ a. member a xs) ys ≡ true → lacking xs ys ≡ 0
all-there xs [] e = refl
all-there xs (y ∷ ys) e =
    let both = and-both (member y xs) (list_all (λ a. member a xs) ys) e in
    lacking-there xs ys y both.0 ∙ all-there xs ys both.1

pub none-missing : (xs ys : List Literal) → subset (ascending ys) (ascending xs) ≡ true → lacking xs ys ≡ 0
none-missing xs ys e = all-there xs ys (all-alike (λ a. member a xs) (λ a. member a (ascending xs)) ys (ascending ys) (λ q. sym (member-ascending q ys)) (λ q. sym (member-ascending q xs)) ∙ e)

-- how many are missing, in whatever order
pub lacking-ascending : (xs ys : List Literal) → lacking (ascending xs) (ascending ys) ≡ lacking xs ys
lacking-ascending xs ys = count_by-ascending (λ a. not (member a (ascending xs))) ys ∙ alike ys
  where
    alike : (l : List Literal) → lacking (ascending xs) l ≡ lacking xs l
    alike [] = refl
    alike (y ∷ l) = lacking-cons (ascending xs) l y ∙ ap (λ t. cond (not t) 1 0 + lacking (ascending xs) l) (member-ascending y xs) ∙ ap (λ n. cond (not (member y xs)) 1 0 + n) (alike l) ∙ sym (lacking-cons xs l y)

or-in : (a b : Bool) → (b ≡ true → a ≡ true) → (a || b) ≡ a
or-in true b f = refl
or-in false true f = sym (f refl)
or-in false false f = refl

pub union-within : (xs ys : List Literal) → Ascends (ascending xs) → lacking xs ys ≡ 0 → ascending xs ≡ union in_order (ascending xs) (ascending ys)
union-within xs ys s n = same-members (ascending xs) (union in_order (ascending xs) (ascending ys)) s (ascends-union (ascending xs) (ascending ys) s) (λ q.
    sym (member-union in_order member-in_order q (ascending xs) (ascending ys)
    ∙ or-in (member q (ascending xs)) (member q (ascending ys)) (λ m. member-ascending q xs ∙ none-lacking xs ys n q (sym (member-ascending q ys) ∙ m))))

-- how long a union gets
pub union-longer : (xs ys : List Literal) → length xs ≤ length (union last xs ys)
union-longer xs [] = omega arith
union-longer xs (y ∷ ys) = on_side (member y xs)
    (λ e. subst (λ t. length xs ≤ length (union last (cond t xs (xs ++ y ∷ [])) ys)) (sym e) (union-longer xs ys))
    (λ e. subst (λ t. length xs ≤ length (union last (cond t xs (xs ++ y ∷ [])) ys)) (sym e) (omega (arith, length_push xs y, union-longer (xs ++ y ∷ []) ys)))

lacks-less : (xs ys : List Literal) (y : Literal) → lacking (xs ++ y ∷ []) ys ≤ lacking xs ys
lacks-less xs [] y = omega arith
lacks-less xs (z ∷ ys) y = on_side (member z xs)
    (λ e.
    let more : member z (xs ++ y ∷ []) ≡ true = member-last z y xs ∙ ap (λ t. same z y || t) e ∙ or-true (same z y) in
    omega (arith, lacking-there xs ys z e, lacking-there (xs ++ y ∷ []) ys z more, lacks-less xs ys y))
    (λ e. on_side (member z (xs ++ y ∷ []))
    (λ f. omega (arith, lacking-more xs ys z e, lacking-there (xs ++ y ∷ []) ys z f, lacks-less xs ys y))
    (λ f. omega (arith, lacking-more xs ys z e, lacking-more (xs ++ y ∷ []) ys z f, lacks-less xs ys y)))

pub union-most : (xs ys : List Literal) → length (union last xs ys) ≤ length xs + lacking xs ys
union-most xs [] = omega arith
union-most xs (y ∷ ys) = on_side (member y xs)
    (λ e. subst (λ t. length (union last (cond t xs (xs ++ y ∷ [])) ys) ≤ length xs + lacking xs (y ∷ ys)) (sym e) (omega (arith, lacking-there xs ys y e, union-most xs ys)))
    (λ e. subst (λ t. length (union last (cond t xs (xs ++ y ∷ [])) ys) ≤ length xs + lacking xs (y ∷ ys)) (sym e)
    (omega (arith, lacking-more xs ys y e, length_push xs y, union-most (xs ++ y ∷ []) ys, lacks-less xs ys y)))

-- ---- the members that stay
kept-same : (keep : Bool) (ys : List Literal) (q : Literal) → kept_by keep (ascending ys) q ≡ kept_by keep ys q
kept-same keep ys q = ap (stays keep) (member-ascending q ys)

pub set-kept : (keep : Bool) (xs ys zs : List Literal) → Ascends (ascending xs) → Ascends (ascending zs) → ((q : Literal) → member q zs ≡ (member q xs && kept_by keep ys q))
    → ascending zs ≡ filter (kept_by keep (ascending ys)) (ascending xs)
set-kept keep xs ys zs s t h = same-members (ascending zs) (filter (kept_by keep (ascending ys)) (ascending xs)) t (ascends-filter (kept_by keep (ascending ys)) (ascending xs) s) (λ q.
    member-ascending q zs ∙ h q
    ∙ sym (member-filter (kept_by keep (ascending ys)) q (ascending xs) ∙ ap (λ t. t && kept_by keep (ascending ys) q) (member-ascending q xs) ∙ ap (λ t. member q xs && t) (kept-same keep ys q)))

and-in : (a b : Bool) → (a ≡ true → b ≡ true) → (a && b) ≡ a
and-in true b f = f refl
and-in false b f = refl

pub all-kept : (keep : Bool) (xs ys : List Literal) → Ascends (ascending xs) → list_all (kept_by keep ys) xs ≡ true → ascending xs ≡ filter (kept_by keep (ascending ys)) (ascending xs)
all-kept keep xs ys s all = same-members (ascending xs) (filter (kept_by keep (ascending ys)) (ascending xs)) s (ascends-filter (kept_by keep (ascending ys)) (ascending xs) s) (λ q.
    sym (member-filter (kept_by keep (ascending ys)) q (ascending xs)
    ∙ and-in (member q (ascending xs)) (kept_by keep (ascending ys) q) (λ m. kept-same keep ys q ∙ all-each (kept_by keep ys) xs all q (sym (member-ascending q xs) ∙ m))))

-- ---- the members of one alone
pub ascends-symdiff : (u v : List Literal) → Ascends u → Ascends (symdiff in_order u v)
ascends-symdiff u v s = ascends-union (minus u v) (minus v u) (ascends-filter (λ a. not (member a v)) u s)

either-is : (a b : Bool) → ((a && not b) || (b && not a)) ≡ either b a
either-is true true = refl
either-is true false = refl
either-is false true = refl
either-is false false = refl

member-symdiff : (q : Literal) (u v : List Literal) → member q (symdiff in_order u v) ≡ either (member q v) (member q u)
member-symdiff q u v = member-union in_order member-in_order q (minus u v) (minus v u)
    ∙ ap (λ t. t || member q (minus v u)) (member-filter (λ a. not (member a v)) q u)
    ∙ ap (λ t. (member q u && not (member q v)) || t) (member-filter (λ a. not (member a u)) q v)
    ∙ either-is (member q u) (member q v)

pub set-toggled : (xs ys zs : List Literal) → Ascends (ascending xs) → Ascends (ascending zs) → ((q : Literal) → member q zs ≡ either (member q ys) (member q xs))
    → ascending zs ≡ symdiff in_order (ascending xs) (ascending ys)
set-toggled xs ys zs s t h = same-members (ascending zs) (symdiff in_order (ascending xs) (ascending ys)) t (ascends-symdiff (ascending xs) (ascending ys) s) (λ q.
    member-ascending q zs ∙ h q ∙ sym (member-symdiff q (ascending xs) (ascending ys) ∙ ap (λ t. either t (member q (ascending xs))) (member-ascending q ys) ∙ ap (λ t. either (member q ys) t) (member-ascending q xs)))

pub toggled-none : (xs : List Literal) → Ascends (ascending xs) → ascending xs ≡ symdiff in_order (ascending xs) []
toggled-none xs s = same-members (ascending xs) (symdiff in_order (ascending xs) []) s (ascends-symdiff (ascending xs) [] s) (λ q. sym (member-symdiff q (ascending xs) []))

-- ---- one member goes
and-true : (b : Bool) → (b && true) ≡ b
and-true true = refl
and-true false = refl

pub set-without : (a : Literal) (xs zs : List Literal) → Ascends (ascending zs) → ascending xs ≡ in_order a (ascending zs) → member a zs ≡ false → ascending zs ≡ without a (ascending xs)
set-without a xs zs t e gone = same-members (ascending zs) (without a (ascending xs)) t (subst (λ l. Ascends (without a l)) (sym e) (ascends-filter (λ b. not (member b (a ∷ []))) (in_order a (ascending zs)) (ascends-in_order a (ascending zs) t (member-ascending a zs ∙ gone)))) (λ q.
    sym (member-filter (λ b. not (member b (a ∷ []))) q (ascending xs)
    ∙ ap (λ l. member q l && not (member q (a ∷ []))) e
    ∙ ap (λ m. m && not (member q (a ∷ []))) (member-in_order q a (ascending zs))
    ∙ left q))
  where
    left : (q : Literal) → ((same q a || member q (ascending zs)) && not (same q a || false)) ≡ member q (ascending zs)
    left q = on_side (same q a)
        (λ f. ap (λ t. (t || member q (ascending zs)) && not (t || false)) f ∙ sym (member-same q a (ascending zs) f ∙ member-ascending a zs ∙ gone))
        (λ f. ap (λ t. (t || member q (ascending zs)) && not (t || false)) f ∙ and-true (member q (ascending zs)))

-- ---- questions about two sets
pub subset-is : (xs ys : List Literal) → list_all (kept_by true ys) xs ≡ subset (ascending xs) (ascending ys)
subset-is xs ys = all-alike (kept_by true ys) (λ a. member a (ascending ys)) xs (ascending xs) (λ q. sym (member-ascending q xs)) (λ q. sym (member-ascending q ys))

pub subset-long : (xs ys : List Literal) → Ascends (ascending xs) → Ascends (ascending ys) → length ys < length xs → false ≡ subset (ascending xs) (ascending ys)
subset-long xs ys s t l = on_side (subset (ascending xs) (ascending ys))
    (λ e. let n = no-longer (ascending xs) (ascending ys) s t (all-each (λ a. member a (ascending ys)) (ascending xs) e) in
    absurd (omega (arith, n, l, length-ascending xs, length-ascending ys)))
    (λ e. sym e)

pub kept-is : (keep : Bool) (xs ys : List Literal) → list_all (kept_by keep ys) xs ≡ list_all (kept_by keep (ascending ys)) (ascending xs)
kept-is keep xs ys = all-alike (kept_by keep ys) (kept_by keep (ascending ys)) xs (ascending xs) (λ q. sym (member-ascending q xs)) (λ q. sym (kept-same keep ys q))

pub disjoint-is : (xs ys : List Literal) → list_all (kept_by false ys) xs ≡ disjoint (ascending xs) (ascending ys)
disjoint-is xs ys = all-alike (kept_by false ys) (λ a. not (member a (ascending ys))) xs (ascending xs) (λ q. sym (member-ascending q xs)) (λ q. ap not (sym (member-ascending q ys)))

pub disjoint-turned : (xs ys : List Literal) → list_all (kept_by false xs) ys ≡ disjoint (ascending xs) (ascending ys)
disjoint-turned xs ys = apart-alike ys xs ∙ disjoint-is xs ys

pub equal-by : (xs ys : List Literal) → Ascends (ascending xs) → Ascends (ascending ys) → length xs ≡ length ys → list_all (kept_by true ys) xs ≡ true → ascending xs ≡ ascending ys
equal-by xs ys s t l all = as-long (ascending xs) (ascending ys) s t (all-each (λ a. member a (ascending ys)) (ascending xs) (sym (subset-is xs ys) ∙ all)) (omega (arith, l, length-ascending xs, length-ascending ys))

pub equal-back : (xs ys : List Literal) → ascending xs ≡ ascending ys → list_all (kept_by true ys) xs ≡ true
equal-back xs ys e = subset-is xs ys ∙ each-all (λ a. member a (ascending ys)) (ascending xs) (λ q m. ap (member q) (sym e) ∙ m)
