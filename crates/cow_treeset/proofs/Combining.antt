-- Lists of distinct keys, of which sets are made.
use Rattle.std.proofs.Common.{◌≡◌, ℕ, ◌+◌, ◌*◌, ◌<◌, ◌≤◌, length, map, List, [], ◌∷◌, ◌++◌, Bool, true, false, not, ◌&&◌, ◌||◌, cond, filter, refl, sym, ap, ◌∙◌, subst, arith}
use Rattle.std.specs.List.{list_all}
use Rattle.std.proofs.lemmas.Bool.{true≢false}
use Rattle.std.proofs.lemmas.List.{length-map}
use Rattle.cow_model.proofs.Ascending.{on_side, ascending_cons}
use Rattle.cow_model.specs.Flat.{need}
use Rattle.cow_model.specs.Members.{member, ascending, in_order, union, symdiff, subset}
use Rattle.cow_model.specs.Order.{same}
use Rattle.cow_model.specs.Purse.{Purse}
use Rattle.cow_model.specs.declared.plain.Literal.{Literal}
use Rattle.cow_champ.specs.Spending.{Spends}
use Rattle.cow_members.proofs.Ascents.{and-both, all-each, each-all, no-longer, as-long, itself, or-false, member-in_order, member-union, member-filter, member-ascending, ascends-in_order, ascends-out, ascends-union, ascends-filter, same-members, length-ascending}
use Rattle.cow_members.proofs.Operations.{set-toggled}
use Rattle.cow_members.specs.Ascents.{Ascends}
use Rattle.cow_members.specs.Sets.{kept_by, either}

-- ---- keys that differ
member-append : (q : Literal) (xs ys : List Literal) → member q (xs ++ ys) ≡ (member q xs || member q ys)
member-append q [] ys = refl
member-append q (x ∷ xs) ys = ap (λ b. same q x || b) (member-append q xs ys) ∙ shift (same q x) (member q xs) (member q ys)
  where
    shift : (a b c : Bool) → (a || (b || c)) ≡ ((a || b) || c)
    shift true b c = refl
    shift false b c = refl

-- the first is none of the others
head-lacks : (x : Literal) (xs : List Literal) → Ascends (ascending (x ∷ xs)) → (member x xs ≡ false) × Ascends (ascending xs)
head-lacks x xs d = let out = ascends-out x (ascending xs) (subst Ascends (ascending_cons x xs) d) in (sym (member-ascending x xs) ∙ out.0, out.1)

one-more : (x : Literal) (xs : List Literal) → member x xs ≡ false → Ascends (ascending xs) → Ascends (ascending (x ∷ xs))
one-more x xs m d = subst Ascends (sym (ascending_cons x xs)) (ascends-in_order x (ascending xs) d (member-ascending x xs ∙ m))

pub distinct-filter : (p : Literal → Bool) (xs : List Literal) → Ascends (ascending xs) → Ascends (ascending (filter p xs))
distinct-filter p [] d = tt
distinct-filter p (x ∷ xs) d =
    let t = head-lacks x xs d in
    let rest = distinct-filter p xs t.1 in
    on_side (p x)
    (λ e. subst (λ b. Ascends (ascending (cond b (x ∷ filter p xs) (filter p xs)))) (sym e) (one-more x (filter p xs) (member-filter p x xs ∙ ap (λ b. b && p x) t.0) rest))
    (λ e. subst (λ b. Ascends (ascending (cond b (x ∷ filter p xs) (filter p xs)))) (sym e) rest)

distinct-append : (xs ys : List Literal) → Ascends (ascending xs) → Ascends (ascending ys) → ((q : Literal) → member q xs ≡ true → member q ys ≡ false) → Ascends (ascending (xs ++ ys))
distinct-append [] ys d e h = e
distinct-append (x ∷ xs) ys d e h =
    let t = head-lacks x xs d in
    one-more x (xs ++ ys) (member-append x xs ys ∙ ap (λ b. b || member x ys) t.0 ∙ h x (first x xs)) (distinct-append xs ys t.1 e (λ q m. h q (ap (λ b. same q x || b) m ∙ later (same q x))))
  where
    later : (a : Bool) → (a || true) ≡ true
    later true = refl
    later false = refl

    first : (x : Literal) (xs : List Literal) → member x (x ∷ xs) ≡ true
    first x xs = ap (λ b. b || member x xs) (itself x)

-- ---- the members that stay
pub filtered : (p : Literal → Bool) (xs v : List Literal) → ascending xs ≡ v → Ascends v → ascending (filter p xs) ≡ filter p v
filtered p xs v e s = same-members (ascending (filter p xs)) (filter p v) (distinct-filter p xs (subst Ascends (sym e) s)) (ascends-filter p v s) (λ q.
    member-ascending q (filter p xs) ∙ member-filter p q xs ∙ ap (λ b. b && p q) (sym (member-ascending q xs) ∙ ap (member q) e) ∙ sym (member-filter p q v))

pub all-stay : (p : Literal → Bool) (v : List Literal) → list_all p v ≡ true → v ≡ filter p v
all-stay p [] h = refl
all-stay p (x ∷ v) h =
    let both = and-both (p x) (list_all p v) h in
    ap (λ l. x ∷ l) (all-stay p v both.1) ∙ sym (ap (λ b. cond b (x ∷ filter p v) (filter p v)) both.0)

-- ---- the members of two sets
module _ (xs ys v w : List Literal) (is : ascending xs ≡ v) (are : ascending ys ≡ w) (s : Ascends v) (t : Ascends w) where
  mine : (q : Literal) → member q v ≡ member q xs
  mine q = ap (member q) (sym is) ∙ member-ascending q xs

  theirs : (q : Literal) → member q w ≡ member q ys
  theirs q = ap (member q) (sym are) ∙ member-ascending q ys

  others : (q : Literal) → member q (filter (kept_by false v) ys) ≡ (member q ys && not (member q xs))
  others q = member-filter (kept_by false v) q ys ∙ ap (λ b. member q ys && not b) (mine q)

  no-and : (a b : Bool) → b ≡ true → (a && not b) ≡ false
  no-and true true e = refl
  no-and true false e = absurd (true≢false (sym e))
  no-and false b e = refl

  pub joined-distinct : Ascends (ascending (xs ++ filter (kept_by false v) ys))
  joined-distinct = distinct-append xs (filter (kept_by false v) ys) (subst Ascends (sym is) s) (distinct-filter (kept_by false v) ys (subst Ascends (sym are) t)) (λ q m.
      others q ∙ no-and (member q ys) (member q xs) m)

  or-is : (a b : Bool) → (a || (b && not a)) ≡ (a || b)
  or-is true b = refl
  or-is false true = refl
  or-is false false = refl

  pub joined-set : ascending (xs ++ filter (kept_by false v) ys) ≡ union in_order v w
  joined-set = same-members (ascending (xs ++ filter (kept_by false v) ys)) (union in_order v w) joined-distinct (ascends-union v w s) (λ q.
      member-ascending q (xs ++ filter (kept_by false v) ys) ∙ member-append q xs (filter (kept_by false v) ys) ∙ ap (λ b. member q xs || b) (others q) ∙ or-is (member q xs) (member q ys)
      ∙ sym (member-union in_order member-in_order q v w ∙ ap (λ b. b || member q w) (mine q) ∙ ap (λ b. member q xs || b) (theirs q)))

  own : (q : Literal) → member q (filter (kept_by false w) xs) ≡ (member q xs && not (member q ys))
  own q = member-filter (kept_by false w) q xs ∙ ap (λ b. member q xs && not b) (theirs q)

  abbrev alone : List Literal
  alone = filter (kept_by false w) xs ++ filter (kept_by false v) ys

  apart : (a b : Bool) → (a && not b) ≡ true → (b && not a) ≡ false
  apart true true e = absurd (true≢false (sym e))
  apart true false e = refl
  apart false b e = absurd (true≢false (sym e))

  pub toggled-distinct : Ascends (ascending alone)
  toggled-distinct = distinct-append (filter (kept_by false w) xs) (filter (kept_by false v) ys) (distinct-filter (kept_by false w) xs (subst Ascends (sym is) s)) (distinct-filter (kept_by false v) ys (subst Ascends (sym are) t)) (λ q m.
      others q ∙ apart (member q xs) (member q ys) (sym (own q) ∙ m))

  either-is : (a b : Bool) → ((a && not b) || (b && not a)) ≡ either b a
  either-is true true = refl
  either-is true false = refl
  either-is false true = refl
  either-is false false = refl

  pub toggled-set : ascending alone ≡ symdiff in_order v w
  toggled-set = set-toggled xs ys alone (subst Ascends (sym is) s) toggled-distinct (λ q.
      member-append q (filter (kept_by false w) xs) (filter (kept_by false v) ys) ∙ ap (λ b. b || member q (filter (kept_by false v) ys)) (own q) ∙ ap (λ b. (member q xs && not (member q ys)) || b) (others q)
      ∙ either-is (member q xs) (member q ys))
      ∙ ap (λ l. symdiff in_order l (ascending ys)) is ∙ ap (symdiff in_order v) are

-- nothing comes
pub union-there : (v w : List Literal) → Ascends v → subset w v ≡ true → v ≡ union in_order v w
union-there v w s all = same-members v (union in_order v w) s (ascends-union v w s) (λ q.
    sym (member-union in_order member-in_order q v w ∙ on_side (member q w)
    (λ m. ap (λ b. b || member q w) (all-each (λ a. member a v) w all q m) ∙ sym (all-each (λ a. member a v) w all q m))
    (λ m. ap (λ b. member q v || b) m ∙ or-false (member q v))))

pub symdiff-none : (v : List Literal) → v ≡ symdiff in_order v []
symdiff-none v = all-stay (λ a. not (member a [])) v (none v)
  where
    none : (v : List Literal) → list_all (λ a. not (member a [])) v ≡ true
    none [] = refl
    none (x ∷ v) = none v

-- the keys of both, of which one list was made after the other
pub one_after : (f xs more now then : List Literal) → now ≡ then ++ more → then ≡ f ++ xs → f ≡ [] → now ≡ xs ++ more
one_after f xs more now then e h n = e ∙ ap (λ l. l ++ more) (h ∙ ap (λ l. l ++ xs) n)

-- ---- what it costs
pub counted : {R : Type 0} (plain : R → Literal) (rs : List R) (v : List Literal) → ascending (map plain rs) ≡ v → length v ≡ length rs
counted plain rs v e = sym (ap length e) ∙ length-ascending (map plain rs) ∙ length-map rs plain

pub spends-one : (w a n l : ℕ) (x y z : Purse) → n ≡ a → l ≤ a → Spends a (w * a) x y → y.spare ≤ z.spare + (14 * l + 1) → z.copied ≡ y.copied → Spends (need n) (w * n) x z
spends-one w a n l x y z e k p r s = record {
  falls = omega (arith, p.falls, r, e, k);
  copied = omega (arith, p.copied, s, ap (λ t. w * t) e);
  kept = omega (arith, p.kept, s);
}

pub spends-two : (w a b n m l : ℕ) (x y z u : Purse) → n ≡ a → m ≡ b → l ≤ a + b → Spends a (w * a) x y → Spends b (w * b) y z → z.spare ≤ u.spare + (14 * l + 1) → u.copied ≡ z.copied → Spends (need (n + m)) (w * (n + m)) x u
spends-two w a b n m l x y z u e f k p q r s = record {
  falls = omega (arith, p.falls, q.falls, r, e, f, k);
  copied = omega (arith, p.copied, q.copied, s, ap (λ t. w * t) e, ap (λ t. w * t) f);
  kept = omega (arith, p.kept, q.kept, s);
}

-- what was there before ends
pub spends-then : (u c : ℕ) (x y z : Purse) → Spends u c x y → y.spare ≤ z.spare → z.copied ≡ y.copied → Spends u c x z
spends-then u c x y z p r s = record {
  falls = omega (arith, p.falls, r);
  copied = omega (arith, p.copied, s);
  kept = omega (arith, p.kept, s);
}

pub spends-less : (n m c : ℕ) (x y : Purse) → Spends (need n) c x y → Spends (need (n + m)) c x y
spends-less n m c x y p = record { falls = omega (arith, p.falls); copied = p.copied; kept = p.kept }

-- ---- questions about two sets
pub subset-fewer : (v w : List Literal) → Ascends v → Ascends w → length w < length v → false ≡ subset v w
subset-fewer v w s t l = on_side (subset v w)
    (λ e. absurd (omega (arith, no-longer v w s t (all-each (λ a. member a w) v e), l)))
    (λ e. sym e)

pub equal-sets : (v w : List Literal) → Ascends v → Ascends w → length v ≡ length w → list_all (kept_by true w) v ≡ true → v ≡ w
equal-sets v w s t l all = as-long v w s t (all-each (λ a. member a w) v all) (omega (arith, l))

pub sets-equal : (v w : List Literal) → v ≡ w → list_all (kept_by true w) v ≡ true
sets-equal v w e = each-all (λ a. member a w) v (λ q m. ap (member q) (sym e) ∙ m)
