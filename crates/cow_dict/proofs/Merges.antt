-- What stands under each key where two maps are merged, or pairs go.
use Rattle.std.proofs.Common.{◌≡◌, ℕ, zero, suc, ◌+◌, ◌*◌, ◌≤◌, length, take, List, [], ◌∷◌, ◌++◌, Bool, true, false, not, ◌||◌, fold, IsPermutation, slice_get, Option, Some, None, refl, sym, ap, ◌∙◌, subst, arith}
use Rattle.std.specs.Prelude.{option_map, is_some}
use Rattle.std.specs.List.{sum_by}
use Rattle.std.proofs.lemmas.Bool.{true≢false}
use Rattle.std.proofs.lemmas.List.{take-map}
use Rattle.std.proofs.lemmas.List.Sorted.{IsPermutation-insert, sum_by-IsPermutation}
use Rattle.std.proofs.lemmas.List.Sums.{sum_by-append, sum_by-cons}
use Rattle.std.proofs.lemmas.Option.{slice_get-map}
use Rattle.cow_model.proofs.Ascending.{on_side}
use Rattle.cow_members.proofs.Ascents.{member-same, same-is, member-ascending, member-union, member-in_order, member-last, ascends-in_order, or-true}
use Rattle.cow_members.specs.Ascents.{Ascends}
use Rattle.cow_model.proofs.ListSteps.{unit_if-le}
use Rattle.cow_model.specs.Flat.{copies}
use Rattle.cow_model.specs.Members.{member, ascending, in_order as key_in_order}
use Rattle.cow_model.specs.Order.{same}
use Rattle.cow_model.specs.Pairs.{in_order, place_in, value_in, put, put_new, put_new_at, merge}
use Rattle.cow_model.specs.Purse.{Purse, Moves}
use Rattle.cow_model.specs.declared.plain.Literal.{Literal}
use Rattle.cow_model.specs.declared.value.Pair.{Pair}
use Rattle.cow_members.proofs.Loops.{apart-front}
use Rattle.cow_members.proofs.Operations.{lacking-ascending, union-within}
use Rattle.cow_members.specs.Sets.{lacking}
use Rattle.cow_dict.specs.Dictionaries.{either_of, merged, only_if, units}
use Rattle.cow_dict.specs.Storages.{pair_of, keys, by_key}
use Rattle.cow_dict.proofs.Maps.{Distinct, choice, has-member, member-value, value-cons, value-past, value-none, value-front, value-put, value-by_key, value-permutes, ascends-put, ascends-by_key, distinct-ascending, distinct-permutes, keys-tail, keys-in_order, keys-by_key, same-map, length-by_key, permutes}

or-none : (x : Option Literal) → either_of x None ≡ x
or-none None = refl
or-none (Some v) = refl

full : (x y : Option Literal) → is_some x ≡ true → x ≡ either_of x y
full None y e = absurd (true≢false (sym e))
full (Some v) y e = refl

-- ---- a pair is put where its key isn't there
stays-at : (r : Pair) (ps : List Pair) (o : Option ℕ) → is_some o ≡ true → put_new_at in_order o r ps ≡ ps
stays-at r ps None e = absurd (true≢false (sym e))
stays-at r ps (Some i) e = refl

comes-at : (r : Pair) (ps : List Pair) (o : Option ℕ) → is_some o ≡ false → put_new_at in_order o r ps ≡ in_order r ps
comes-at r ps None e = refl
comes-at r ps (Some i) e = absurd (true≢false e)

pub put_new-there : (r : Pair) (ps : List Pair) → member r.key (keys ps) ≡ true → put_new in_order ps r ≡ ps
put_new-there r ps m = stays-at r ps (place_in r.key ps) (has-member r.key ps ∙ m)

pub put_new-absent : (r : Pair) (ps : List Pair) → member r.key (keys ps) ≡ false → put_new in_order ps r ≡ in_order r ps
put_new-absent r ps m = comes-at r ps (place_in r.key ps) (has-member r.key ps ∙ m)

ascends-put_new : (r : Pair) (ps : List Pair) → Ascends (keys ps) → Ascends (keys (put_new in_order ps r))
ascends-put_new r ps s = on_side (member r.key (keys ps))
    (λ m. subst Ascends (sym (ap keys (put_new-there r ps m))) s)
    (λ m. subst Ascends (sym (ap keys (put_new-absent r ps m) ∙ keys-in_order r ps)) (ascends-in_order r.key (keys ps) s m))

value-put_new : (r : Pair) (ps : List Pair) → Distinct ps → (q : Literal) → value_in q (put_new in_order ps r) ≡ either_of (value_in q ps) (choice (same q r.key) (Some r.value) None)
value-put_new r ps d q = on_side (member r.key (keys ps))
    (λ m. ap (value_in q) (put_new-there r ps m) ∙ on_side (same q r.key)
    (λ e. full (value_in q ps) (choice (same q r.key) (Some r.value) None) (sym (member-value q ps) ∙ member-same q r.key (keys ps) e ∙ m))
    (λ e. sym (ap (λ b. either_of (value_in q ps) (choice b (Some r.value) None)) e ∙ or-none (value_in q ps))))
    (λ m. ap (value_in q) (put_new-absent r ps m) ∙ value-front r ps (in_order r ps) (IsPermutation-insert ps _ r) d m q ∙ on_side (same q r.key)
    (λ e. ap (λ b. choice b (Some r.value) (value_in q ps)) e
    ∙ sym (ap (λ o. either_of o (choice (same q r.key) (Some r.value) None)) (value-none q ps (member-same q r.key (keys ps) e ∙ m)) ∙ ap (λ b. choice b (Some r.value) None) e))
    (λ e. ap (λ b. choice b (Some r.value) (value_in q ps)) e ∙ sym (ap (λ b. either_of (value_in q ps) (choice b (Some r.value) None)) e ∙ or-none (value_in q ps))))

-- ---- two maps are merged
turn-takes : (b : Bool) (x y : Option Literal) (v : Literal) → (b ≡ true → x ≡ None) → either_of x (choice b (Some v) y) ≡ either_of (choice b (Some v) x) y
turn-takes true x y v f = ap (λ o. either_of o (Some v)) (f refl)
turn-takes false x y v f = refl

turn-keeps : (b : Bool) (x y : Option Literal) (v : Literal) → either_of (either_of x (choice b (Some v) None)) y ≡ either_of x (choice b (Some v) y)
turn-keeps b (Some w) y v = refl
turn-keeps true None y v = refl
turn-keeps false None y v = refl

value-takes : (ps rs : List Pair) → Ascends (keys ps) → Distinct rs → (q : Literal) → value_in q (fold (put in_order) ps rs) ≡ either_of (value_in q rs) (value_in q ps)
value-takes ps [] s d q = refl
value-takes ps (r ∷ rs) s d q =
    let t = keys-tail r.key (keys rs) d in
    value-takes (put in_order ps r) rs (ascends-put r ps s) t.1 q
    ∙ ap (either_of (value_in q rs)) (value-put r ps (distinct-ascending ps s) q)
    ∙ turn-takes (same q r.key) (value_in q rs) (value_in q ps) r.value (λ e. value-none q rs (member-same q r.key (keys rs) e ∙ t.0))
    ∙ ap (λ o. either_of o (value_in q ps)) (sym (value-cons q r rs))

value-keeps : (ps rs : List Pair) → Ascends (keys ps) → (q : Literal) → value_in q (fold (put_new in_order) ps rs) ≡ either_of (value_in q ps) (value_in q rs)
value-keeps ps [] s q = sym (or-none (value_in q ps))
value-keeps ps (r ∷ rs) s q =
    value-keeps (put_new in_order ps r) rs (ascends-put_new r ps s) q
    ∙ ap (λ o. either_of o (value_in q rs)) (value-put_new r ps (distinct-ascending ps s) q)
    ∙ turn-keeps (same q r.key) (value_in q ps) (value_in q rs) r.value
    ∙ ap (either_of (value_in q ps)) (sym (value-cons q r rs))

pub value-merge : (t : Bool) (ps rs : List Pair) → Ascends (keys ps) → Distinct rs → (q : Literal) → value_in q (merge in_order t ps rs) ≡ merged t (value_in q rs) (value_in q ps)
value-merge true ps rs s d q = value-takes ps rs s d q
value-merge false ps rs s d q = value-keeps ps rs s q

pub ascends-merge : (t : Bool) (ps rs : List Pair) → Ascends (keys ps) → Ascends (keys (merge in_order t ps rs))
ascends-merge true ps [] s = s
ascends-merge true ps (r ∷ rs) s = ascends-merge true (put in_order ps r) rs (ascends-put r ps s)
ascends-merge false ps [] s = s
ascends-merge false ps (r ∷ rs) s = ascends-merge false (put_new in_order ps r) rs (ascends-put_new r ps s)

-- a list with the values of both stands for the map of both
pub map-merge : (t : Bool) (ps rs zs : List Pair) → Distinct ps → Distinct rs → Distinct zs → ((q : Literal) → value_in q zs ≡ merged t (value_in q rs) (value_in q ps)) → by_key zs ≡ merge in_order t (by_key ps) (by_key rs)
map-merge t ps rs zs d e z h =
    let s = ascends-by_key ps d in
    same-map (by_key zs) (merge in_order t (by_key ps) (by_key rs)) (ascends-by_key zs z) (ascends-merge t (by_key ps) (by_key rs) s) (λ q.
    value-by_key zs z q ∙ h q ∙ ap (λ o. merged t o (value_in q ps)) (sym (value-by_key rs e q)) ∙ ap (merged t (value_in q (by_key rs))) (sym (value-by_key ps d q))
    ∙ sym (value-merge t (by_key ps) (by_key rs) s (distinct-ascending (by_key rs) (ascends-by_key rs e)) q))

-- ---- what one of the others brings
swap : (one mine : Option Literal) → (is_some one ≡ true → mine ≡ None) → either_of mine one ≡ either_of one mine
swap None mine f = or-none mine
swap (Some v) mine f = ap (λ o. either_of o (Some v)) (f refl)

taken : (b : Bool) (w : Literal) (mine : Option Literal) → choice b (Some w) mine ≡ either_of (choice b (Some w) None) mine
taken true w mine = refl
taken false w mine = refl

-- its value is taken
pub merged-take : (q a w : Literal) (mine : Option Literal) → choice (same q a) (Some w) mine ≡ merged true (value_in q (pair_of a w ∷ [])) mine
merged-take q a w mine = taken (same q a) w mine ∙ ap (λ o. either_of o mine) (sym (value-cons q (pair_of a w) []))

-- that which is there is kept
pub merged-keep : (q a w : Literal) (ps : List Pair) → member a (keys ps) ≡ true → value_in q ps ≡ merged false (value_in q (pair_of a w ∷ [])) (value_in q ps)
merged-keep q a w ps m = on_side (same q a)
    (λ e. full (value_in q ps) (value_in q (pair_of a w ∷ [])) (sym (member-value q ps) ∙ member-same q a (keys ps) e ∙ m))
    (λ e. sym (ap (either_of (value_in q ps)) (value-past q (pair_of a w) [] e) ∙ or-none (value_in q ps)))

-- where the keys are there, a merge that keeps changes nothing
there-all : (xs ys : List Literal) → Ascends (ascending xs) → lacking xs ys ≡ 0 → (q : Literal) → member q ys ≡ true → member q xs ≡ true
there-all xs ys s n q m = sym (member-ascending q xs) ∙ ap (member q) (union-within xs ys s n) ∙ member-union key_in_order member-in_order q (ascending xs) (ascending ys)
    ∙ ap (λ t. member q (ascending xs) || t) (member-ascending q ys ∙ m) ∙ or-true (member q (ascending xs))

pub merge-nothing : (ps rs : List Pair) → Distinct ps → Distinct rs → lacking (keys ps) (keys rs) ≡ 0 → by_key ps ≡ merge in_order false (by_key ps) (by_key rs)
merge-nothing ps rs d e n = map-merge false ps rs ps d e d (λ q. on_side (member q (keys rs))
    (λ m. full (value_in q ps) (value_in q rs) (sym (member-value q ps) ∙ there-all (keys ps) (keys rs) d n q m))
    (λ m. sym (ap (either_of (value_in q ps)) (value-none q rs m) ∙ or-none (value_in q ps))))

pub merge-empty : (t : Bool) (ps : List Pair) → ps ≡ merge in_order t ps []
merge-empty true ps = refl
merge-empty false ps = refl

-- a merge that changes nothing: one that keeps, where the keys are there, and one with no pairs
pub merge-idle : (t : Bool) (ps rs : List Pair) → Distinct ps → Distinct rs → (t ≡ false → lacking (keys (by_key ps)) (keys (by_key rs)) ≡ 0) → (t ≡ true → length rs ≡ 0) → by_key ps ≡ merge in_order t (by_key ps) (by_key rs)
merge-idle true ps [] d e keep take = merge-empty true (by_key ps)
merge-idle true ps (r ∷ rs) d e keep take = absurd (omega (arith, take refl))
merge-idle false ps rs d e keep take = merge-nothing ps rs d e (sym (lacking-ascending (keys ps) (keys rs)) ∙ ap (λ l. lacking l (ascending (keys rs))) (sym (keys-by_key ps)) ∙ ap (λ l. lacking (keys (by_key ps)) l) (sym (keys-by_key rs)) ∙ keep refl)

-- ---- one more of the others
pub more-front : {X : Type 0} (xs : List X) (i : ℕ) (x : X) → slice_get xs i ≡ Some x → take (i + 1) xs ≡ take i xs ++ x ∷ []
more-front [] i x e = cc
more-front (y ∷ xs) zero x e = let z : y ≡ x = cc in ap (λ w. w ∷ []) z
more-front (y ∷ xs) (suc i) x e = let n : suc i + 1 ≡ suc (i + 1) = omega arith in ap (λ k. take k (y ∷ xs)) n ∙ ap (λ l. y ∷ l) (more-front xs i x e)

shift : (b : Bool) (v : Literal) (x y : Option Literal) → choice b (Some v) (either_of x y) ≡ either_of (choice b (Some v) x) y
shift true v x y = refl
shift false v x y = refl

pub value-last : (ps : List Pair) (p : Pair) (q : Literal) → value_in q (ps ++ p ∷ []) ≡ either_of (value_in q ps) (value_in q (p ∷ []))
value-last [] p q = refl
value-last (r ∷ ps) p q = value-cons q r (ps ++ p ∷ []) ∙ ap (choice (same q r.key) (Some r.value)) (value-last ps p q)
    ∙ shift (same q r.key) r.value (value_in q ps) (value_in q (p ∷ [])) ∙ ap (λ o. either_of o (value_in q (p ∷ []))) (sym (value-cons q r ps))

turn : (t : Bool) (one front mine : Option Literal) → (is_some one ≡ true → front ≡ None) → merged t one (merged t front mine) ≡ merged t (either_of front one) mine
turn true None front mine f = ap (λ o. either_of o mine) (sym (or-none front))
turn true (Some v) front mine f = sym (ap (λ o. either_of (either_of o (Some v)) mine) (f refl))
turn false one front (Some m) f = refl
turn false one front None f = refl

only-here : (q : Literal) (p : Pair) → is_some (value_in q (p ∷ [])) ≡ true → same q p.key ≡ true
only-here q p e = on_side (same q p.key) (λ f. f) (λ f. absurd (true≢false (sym e ∙ ap is_some (value-past q p [] f))))

-- its key isn't there, so it comes
pub merged-new : (t : Bool) (q : Literal) (p : Pair) (ps : List Pair) → member p.key (keys ps) ≡ false → value_in q (ps ++ p ∷ []) ≡ merged t (value_in q (p ∷ [])) (value_in q ps)
merged-new false q p ps m = value-last ps p q
merged-new true q p ps m = value-last ps p q ∙ swap (value_in q (p ∷ [])) (value_in q ps) (λ s. value-none q ps (member-same q p.key (keys ps) (only-here q p s) ∙ m))

pub turn-merged : (t : Bool) (ps : List Pair) (i : ℕ) (p : Pair) (q : Literal) (mine : Option Literal) → Distinct ps → slice_get ps i ≡ Some p
    → merged t (value_in q (p ∷ [])) (merged t (value_in q (take i ps)) mine) ≡ merged t (value_in q (take (i + 1) ps)) mine
turn-merged t ps i p q mine d e =
    let key : slice_get (keys ps) i ≡ Some p.key = slice_get-map (λ (r : Pair). r.key) ps i ∙ ap (λ o. option_map (λ (r : Pair). r.key) o) e in
    let gone : member p.key (keys (take i ps)) ≡ false = ap (member p.key) (sym (take-map (λ (r : Pair). r.key) i ps)) ∙ apart-front (keys ps) i p.key d key in
    turn t (value_in q (p ∷ [])) (value_in q (take i ps)) mine (λ s. value-none q (take i ps) (member-same q p.key (keys (take i ps)) (only-here q p s) ∙ gone))
    ∙ ap (λ o. merged t o mine) (sym (ap (value_in q) (more-front ps i p e) ∙ value-last (take i ps) p q))

-- ---- what the others cost
pub units-two : (f g : Literal → Bool) (p : Pair) → units f g p ≤ 2
units-two f g p = omega (arith, unit_if-le (f p.key), unit_if-le (g p.value))

pub units-front : (f g : Literal → Bool) (ps : List Pair) (i : ℕ) → sum_by (units f g) (take i ps) ≤ 2 * i
units-front f g ps zero = omega arith
units-front f g [] (suc i) = omega arith
units-front f g (p ∷ ps) (suc i) = omega (arith, sum_by-cons (units f g) p (take i ps), units-two f g p, units-front f g ps i)

pub units-most : (f g : Literal → Bool) (ps : List Pair) → sum_by (units f g) ps ≤ 2 * length ps
units-most f g [] = omega arith
units-most f g (p ∷ ps) = omega (arith, sum_by-cons (units f g) p ps, units-two f g p, units-most f g ps)

pub units-more : (f g : Literal → Bool) (ps : List Pair) (i : ℕ) (p : Pair) → slice_get ps i ≡ Some p → sum_by (units f g) (take (i + 1) ps) ≡ sum_by (units f g) (take i ps) + units f g p
units-more f g ps i p e =
    let one : sum_by (units f g) (p ∷ []) ≡ units f g p = omega (arith, sum_by-cons (units f g) p []) in
    ap (sum_by (units f g)) (more-front ps i p e) ∙ sum_by-append (units f g) (take i ps) (p ∷ []) ∙ ap (λ n. sum_by (units f g) (take i ps) + n) one

sum-map : (f g : Literal → Bool) (ps : List Pair) → sum_by (units f g) (by_key ps) ≡ sum_by (units f g) ps
sum-map f g ps = sum_by-IsPermutation (units f g) ps (by_key ps) (permutes ps)

-- the storage is made alone, then copies of others come in and values end
pub paid-merge : (f g : Literal → Bool) (w : ℕ) (alone : Bool) (ps rs : List Pair) (now : ℕ) (h k l : Purse) → Moves (sum_by (units f g) ps) (copies alone (w * length ps)) h k → k.spare ≤ h.spare
    → l.spare + now ≡ k.spare + sum_by (units f g) ps → k.spare ≤ l.spare + sum_by (units f g) rs → l.copied ≤ k.copied + w * length rs → k.copied ≤ l.copied
    → Moves (sum_by (units f g) (by_key ps ++ by_key rs)) (copies alone (w * length (by_key ps)) + w * length (by_key rs)) h l
paid-merge f g w alone ps rs now h k l a down balance falls copied kept =
    let both = sum_by-append (units f g) (by_key ps) (by_key rs) in
    let mine = sum-map f g ps in
    let theirs = sum-map f g rs in
    let made = ap (λ n. copies alone (w * n)) (length-by_key ps) in
    let brought = ap (λ n. w * n) (length-by_key rs) in
    record {
      falls = omega (arith, a.falls, falls, both, mine, theirs);
      rises = omega (arith, down, balance, both, mine, theirs);
      copied = omega (arith, a.copied, copied, made, brought);
      kept = omega (arith, a.kept, kept);
    }

-- the storage is made alone, then some of its pairs end
pub paid-filter : (f g : Literal → Bool) (w : ℕ) (alone : Bool) (ps : List Pair) (now : ℕ) (h k l : Purse) → Moves (sum_by (units f g) ps) (copies alone (w * length ps)) h k → k.spare ≤ h.spare
    → l.spare + now ≡ k.spare + sum_by (units f g) ps → k.spare ≤ l.spare → l.copied ≡ k.copied
    → Moves (sum_by (units f g) (by_key ps)) (copies alone (w * length (by_key ps))) h l
paid-filter f g w alone ps now h k l a down balance up copied =
    let mine = sum-map f g ps in
    let made = ap (λ n. copies alone (w * n)) (length-by_key ps) in
    record {
      falls = omega (arith, a.falls, up, mine);
      rises = omega (arith, down, balance, mine);
      copied = omega (arith, a.copied, copied, made);
      kept = omega (arith, a.kept, copied);
    }

-- ---- pairs go
pub value-out : (ps zs : List Pair) (r : Pair) → Distinct ps → IsPermutation ps (r ∷ zs) → (q : Literal) → value_in q zs ≡ only_if (not (same q r.key)) (value_in q ps)
value-out ps zs r d h q =
    let t = keys-tail r.key (keys zs) (distinct-permutes ps (r ∷ zs) h d) in
    on_side (same q r.key)
    (λ e. value-none q zs (member-same q r.key (keys zs) e ∙ t.0) ∙ sym (ap (λ b. only_if (not b) (value_in q ps)) e))
    (λ e. sym (value-past q r zs e) ∙ value-permutes ps (r ∷ zs) h d q ∙ sym (ap (λ b. only_if (not b) (value_in q ps)) e))

-- the pair of a goes, which isn't one that stays
pub out-turn : (a q : Literal) (kept : Literal → Bool) (x y : Option Literal) → kept a ≡ false → y ≡ only_if (not (same q a)) x → y ≡ only_if (not (same q a) || kept q) x
out-turn a q kept x y k h = h ∙ on_side (same q a)
    (λ e. ap (λ b. only_if (not b) x) e ∙ sym (ap (λ b. only_if (not b || kept q) x) e ∙ ap (λ b. only_if b x) (ap kept (same-is q a e) ∙ k)))
    (λ e. ap (λ b. only_if (not b) x) e ∙ sym (ap (λ b. only_if (not b || kept q) x) e))

-- it stays
pub stays-turn : (a q : Literal) (kept : Literal → Bool) (x : Option Literal) → kept a ≡ true → x ≡ only_if (not (same q a) || kept q) x
stays-turn a q kept x k = on_side (same q a)
    (λ e. sym (ap (λ b. only_if (not b || kept q) x) e ∙ ap (λ b. only_if b x) (ap kept (same-is q a e) ∙ k)))
    (λ e. sym (ap (λ b. only_if (not b || kept q) x) e))

-- one of those that are still to be looked at
pub kept-turn : (a q : Literal) (k : Bool) (x : Option Literal) (before : List Literal) → member a before ≡ false
    → only_if (not (same q a) || k) (only_if (member q (before ++ a ∷ []) || k) x) ≡ only_if (member q before || k) x
kept-turn a q k x before gone = on_side (same q a)
    (λ e. ap (λ b. only_if (not b || k) (only_if (member q (before ++ a ∷ []) || k) x)) e
    ∙ ap (λ b. only_if k (only_if (b || k) x)) (member-last q a before ∙ ap (λ b. b || member q before) e)
    ∙ sym (ap (λ b. only_if (b || k) x) (member-same q a before e ∙ gone)))
    (λ e. ap (λ b. only_if (not b || k) (only_if (member q (before ++ a ∷ []) || k) x)) e
    ∙ ap (λ b. only_if (b || k) x) (member-last q a before ∙ ap (λ b. b || member q before) e))

nothing : (b : Bool) → None ≡ only_if b None
nothing true = refl
nothing false = refl

-- before any was looked at
pub kept-all : (q : Literal) (ps : List Pair) (k : Bool) → value_in q ps ≡ only_if (member q (keys ps) || k) (value_in q ps)
kept-all q ps k = on_side (member q (keys ps))
    (λ m. sym (ap (λ b. only_if (b || k) (value_in q ps)) m))
    (λ m. value-none q ps m ∙ nothing (member q (keys ps) || k) ∙ sym (ap (only_if (member q (keys ps) || k)) (value-none q ps m)))
