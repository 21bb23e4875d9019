-- The keys of a canonical shape, as the set that they stand for.
use Rattle.std.proofs.Common.{◌≡◌, ℕ, ◌+◌, ◌-◌, ◌*◌, ◌≤◌, length, map, List, [], ◌∷◌, ◌++◌, Bool, true, false, not, ◌&&◌, ◌||◌, cond, eqb, All, Option, Some, None, Result, Ok, Err, refl, sym, ap, ◌∙◌, subst, arith}
use Rattle.std.specs.Prelude.{is_some, option_map, count_by, pos}
use Rattle.std.specs.Borrow.{Bor}
use Rattle.std.specs.List.{list_all}
use Rattle.std.specs.Result.{IfOk}
use Rattle.std.proofs.lemmas.Bool.{true≢false}
use Rattle.std.proofs.lemmas.List.{length-map}
use Rattle.std.proofs.lemmas.List.Sums.{sum_by-cons}
use Rattle.cow_model.proofs.Ascending.{on_side, ascending_cons}
use Rattle.cow_model.proofs.CanonOrder.{eq_refl}
use Rattle.cow_model.proofs.CanonSlots.{count-canon, length-canon, IsCanonical-canon, IsDistinct-given}
use Rattle.cow_model.specs.Canon.{is_one, has_key, count_where, IsDistinct, without, get, given, canon, pairs, Tree, IsCanonical}
use Rattle.cow_model.specs.Members.{member, ascending, in_order}
use Rattle.cow_model.specs.Order.{same}
use Rattle.cow_model.specs.Purse.{Purse}
use Rattle.cow_model.specs.declared.plain.Literal.{Literal}
use Rattle.cow_model.specs.declared.value.Pair.{Pair}
use Rattle.cow_model.specs.declared.plain.Literal.TheVariants.{Int}
use Rattle.cow_champ.specs.Node.{hashed, seen_pair, SeenSettled}
use Rattle.cow_champ.specs.Spending.{Spends, put_need}
use Rattle.cow_members.proofs.Ascents.{same-is, itself, member-same, or-no, ascends-in_order, ascends-out, same-members, member-ascending, length-ascending, count_by-ascending, all-alike}
use Rattle.cow_members.specs.Ascents.{Ascends}
use Rattle.cow_treeset.specs.TreeSets.{set_of, alike, on_path, key_of}

abbrev keys : List Pair → List Literal
keys ps = map (λ p. p.key) ps

-- the plain value of `()`
abbrev pub nothing : {Y : Type 0} → Y → Literal
nothing y = Int (pos 0)

abbrev one_if : Bool → ℕ
one_if b = cond b 1 0

is-same : (a b : Literal) → is_one a b ≡ same b a
unfolding is_one
is-same a b = on_side (same a b)
    (λ e. let z = same-is a b e in e ∙ sym (subst (λ c. same c a ≡ true) z (itself a)))
    (λ e. on_side (same b a)
    (λ f. let z = same-is b a f in absurd (true≢false (sym (subst (λ c. same c b ≡ true) z (itself b)) ∙ e)))
    (λ f. e ∙ sym f))

-- ---- a key is there where a pair of it is counted
member-count : (q : Literal) (ps : List Pair) → member q (keys ps) ≡ false → count_where (has_key q) ps ≡ 0
member-count q [] m = refl
member-count q (p ∷ ps) m =
    let n = or-no (same q p.key) (member q (keys ps)) m in
    let z : one_if (has_key q p) ≡ 0 = ap one_if (is-same p.key q ∙ n.0) in
    omega (arith, z, member-count q ps n.1)

count-member : (q : Literal) (ps : List Pair) → count_where (has_key q) ps ≡ 0 → member q (keys ps) ≡ false
count-member q [] h = refl
count-member q (p ∷ ps) h = on_side (same q p.key)
    (λ e. let z : one_if (has_key q p) ≡ 1 = ap one_if (is-same p.key q ∙ e) in absurd (omega (arith, z, h)))
    (λ e. ap (λ b. b || member q (keys ps)) e ∙ count-member q ps (omega (arith, h)))

member-alike : (xs ys : List Pair) → ((t : Pair → Bool) → count_where t ys ≡ count_where t xs) → (q : Literal) → member q (keys ys) ≡ member q (keys xs)
member-alike xs ys h q = on_side (member q (keys xs))
    (λ e. on_side (member q (keys ys))
    (λ f. f ∙ sym e)
    (λ f. absurd (true≢false (sym e ∙ count-member q xs (sym (h (has_key q)) ∙ member-count q ys f)))))
    (λ e. count-member q ys (h (has_key q) ∙ member-count q xs e) ∙ sym e)

-- ---- distinct keys
pub distinct-keys : (ps : List Pair) → IsDistinct ps → Ascends (set_of ps)
distinct-keys [] h = tt
distinct-keys (p ∷ ps) h =
    let z : one_if (has_key p.key p) ≡ 1 = ap one_if (eq_refl p.key) in
    let one = h p.key in
    subst Ascends (sym (ascending_cons p.key (keys ps))) (ascends-in_order p.key (set_of ps) (distinct-keys ps (λ k. let q = h k in omega (arith, q)))
    (member-ascending p.key (keys ps) ∙ count-member p.key ps (omega (arith, z, one))))

pub keys-distinct : (ps : List Pair) → Ascends (set_of ps) → IsDistinct ps
keys-distinct [] d k = omega arith
keys-distinct (p ∷ ps) d k =
    let out = ascends-out p.key (set_of ps) (subst Ascends (ascending_cons p.key (keys ps)) d) in
    on_side (same k p.key)
    (λ e. let z : one_if (has_key k p) ≡ 1 = ap one_if (is-same p.key k ∙ e) in
    omega (arith, z, member-count k ps (member-same k p.key (keys ps) e ∙ sym (member-ascending p.key (keys ps)) ∙ out.0)))
    (λ e. let z : one_if (has_key k p) ≡ 0 = ap one_if (is-same p.key k ∙ e) in
    omega (arith, z, keys-distinct ps out.1 k))

-- ---- the set of a canonical shape
pub set-canon : (hash_of : Literal → ℕ) (level : ℕ) (ps : List Pair) → IsDistinct ps → set_of (pairs (canon hash_of ps level)) ≡ set_of ps
set-canon hash_of level ps d =
    let zs = pairs (canon hash_of ps level) in
    let c = IsCanonical-canon hash_of ps level d in
    same-members (set_of zs) (set_of ps) (distinct-keys zs c.distinct) (distinct-keys ps d)
    (λ q. member-ascending q (keys zs) ∙ member-alike ps zs (λ t. count-canon hash_of t ps level) q ∙ sym (member-ascending q (keys ps)))

without-absent : (k : Literal) (ps : List Pair) → member k (keys ps) ≡ false → without k ps ≡ ps
unfolding without
without-absent k [] m = refl
without-absent k (p ∷ ps) m =
    let n = or-no (same k p.key) (member k (keys ps)) m in
    ap (λ b. cond (not b) (p ∷ without k ps) (without k ps)) (is-same p.key k ∙ n.0) ∙ ap (λ l. p ∷ l) (without-absent k ps n.1)

-- a key comes that wasn't there
module _ (hash_of : Literal → ℕ) (level : ℕ) (k v : Literal) (ps : List Pair) (d : IsDistinct ps) (absent : member k (set_of ps) ≡ false) where
  same-left : without k ps ≡ ps
  same-left = without-absent k ps (sym (member-ascending k (keys ps)) ∙ absent)

  pub set-given : set_of (pairs (canon hash_of (given k v ps) level)) ≡ in_order k (set_of ps)
  set-given = set-canon hash_of level (given k v ps) (IsDistinct-given hash_of k v ps d) ∙ ascending_cons k (keys (without k ps)) ∙ ap (λ l. in_order k (set_of l)) same-left

  pub size-given : length (pairs (canon hash_of (given k v ps) level)) ≡ length ps + 1
  size-given = omega (arith, length-canon hash_of (given k v ps) level, ap length same-left)

-- no pairs
module _ (hash_of : Literal → ℕ) (level : ℕ) (s : Tree) (e : s ≡ canon hash_of [] level) where
  pub empty-size : 0 ≡ length (pairs s)
  empty-size = sym (ap (λ t. length (pairs t)) e ∙ length-canon hash_of [] level)

  pub empty-canonical : IsCanonical hash_of s level
  empty-canonical = subst (λ t. IsCanonical hash_of t level) (sym e) (IsCanonical-canon hash_of [] level (λ k. omega arith))

  pub empty-set : set_of (pairs s) ≡ []
  empty-set = ap (λ t. set_of (pairs t)) e ∙ set-canon hash_of level [] (λ k. omega arith)

-- ---- what is asked of a set
pub get-member : (k : Literal) (ps : List Pair) → is_some (get k ps) ≡ member k (set_of ps)
unfolding get
get-member k ps = there ps ∙ sym (member-ascending k (keys ps))
  where
    there : (ps : List Pair) → is_some (get k ps) ≡ member k (keys ps)
    there [] = refl
    there (p ∷ ps) = on_side (same k p.key)
        (λ e. ap (λ b. is_some (cond b (Some p.value) (get k ps))) (is-same p.key k ∙ e) ∙ sym (ap (λ b. b || member k (keys ps)) e))
        (λ e. ap (λ b. is_some (cond b (Some p.value) (get k ps))) (is-same p.key k ∙ e) ∙ there ps ∙ sym (ap (λ b. b || member k (keys ps)) e))

pub length-set : (ps : List Pair) → length (set_of ps) ≡ length ps
length-set ps = length-ascending (keys ps) ∙ length-map ps (λ p. p.key)

-- how many keys pass a test
pub count-set : (t : Literal → Bool) (ps : List Pair) → count_where (λ p. t p.key) ps ≡ count_by t (set_of ps)
count-set t ps = sym (count_by-ascending t (keys ps) ∙ counted ps)
  where
    counted : (ps : List Pair) → count_by t (keys ps) ≡ count_where (λ p. t p.key) ps
    counted [] = refl
    counted (p ∷ ps) = sum_by-cons (λ a. cond (t a) 1 0) p.key (keys ps) ∙ ap (λ n. cond (t p.key) 1 0 + n) (counted ps)

pub few-pass : (t : Pair → Bool) (ps : List Pair) → count_where t ps ≤ length ps
few-pass t [] = omega arith
few-pass t (p ∷ ps) = omega (arith, one (t p), few-pass t ps)
  where
    one : (b : Bool) → cond b 1 0 ≤ 1
    one true = omega arith
    one false = omega arith

pub alike-set : (hash_of : Literal → ℕ) (hash : ℕ) (ps : List Pair) → alike hash_of hash (set_of ps) ≡ count_where (λ p. eqb (hash_of p.key) hash) ps
alike-set hash_of hash ps = sym (count-set (λ a. eqb (hash_of a) hash) ps)

pub all-set : (t : Literal → Bool) (ps : List Pair) → list_all (λ p. t p.key) ps ≡ list_all t (set_of ps)
all-set t ps = each ps ∙ all-alike t t (keys ps) (set_of ps) (λ q. sym (member-ascending q (keys ps))) (λ q. refl)
  where
    each : (ps : List Pair) → list_all (λ p. t p.key) ps ≡ list_all t (keys ps)
    each [] = refl
    each (p ∷ ps) = ap (λ b. t p.key && b) (each ps)

-- ---- what a change of the root costs
pub long : (ps : List Pair) (v : List Literal) → set_of ps ≡ v → length v ≡ length ps
long ps v e = sym (ap length e) ∙ length-set ps

pub spends-set : (w level : ℕ) (ps : List Pair) (v : List Literal) (h k : Purse) → set_of ps ≡ v → level ≡ 0 → Spends (put_need level (length ps)) ((w + 0) * length ps) h k → Spends (put_need 0 (length v)) (w * length v) h k
spends-set w level ps v h k e z s =
    let none : w + 0 ≡ w = omega arith in
    subst (λ x. Spends (put_need 0 x) (w * x) h k) (sym (long ps v e)) (subst (λ u. Spends (put_need 0 (length ps)) (u * length ps) h k) none (subst (λ l. Spends (put_need l (length ps)) ((w + 0) * length ps) h k) z s))

pub copies-set : (hash_of : Literal → ℕ) (w level hash : ℕ) (a : Literal) (ps : List Pair) (v : List Literal) (h k : Purse) → set_of ps ≡ v → level ≡ 0 → hash ≡ hash_of a
    → k.copied ≤ h.copied + (w + 0) * (32 * (7 - level) + count_where (λ p. eqb (hash_of p.key) hash) ps) → k.copied ≤ h.copied + w * on_path hash_of a v
copies-set hash_of w level hash a ps v h k e z is s =
    let none : w + 0 ≡ w = omega arith in
    let f : alike hash_of (hash_of a) v ≡ count_where (λ p. eqb (hash_of p.key) hash) ps = ap (alike hash_of (hash_of a)) (sym e) ∙ ap (λ x. alike hash_of x (set_of ps)) (sym is) ∙ alike-set hash_of hash ps in
    let q : 32 * (7 - level) + count_where (λ p. eqb (hash_of p.key) hash) ps ≡ on_path hash_of a v = omega (arith, z, f) in
    subst (λ x. k.copied ≤ h.copied + w * x) q (subst (λ u. k.copied ≤ h.copied + u * (32 * (7 - level) + count_where (λ p. eqb (hash_of p.key) hash) ps)) none s)

-- ---- what calls answer
pub found-some : {X Y : Type 0} (f : X → Y) (o : Option X) (w : Option Y) → option_map f o ≡ w → is_some o ≡ is_some w
found-some f None w e = ap is_some e
found-some f (Some x) w e = ap is_some e

pub IfOk_map : {T E : Type 0} {P R : T → Type 0} (r : Result T E) → ((v : T) → P v → R v) → IfOk r P → IfOk r R
IfOk_map {P = P} {R = R} r f h = (elim r as (λ x. IfOk x P → IfOk x R) [ Ok v ↦ f v | Err e ↦ λ _. tt ]) h

pub keys-hashed : {X Y : Type 0} (plain : X → Literal) (worth : Y → Literal) (ts : List (ℕ × X × Y)) → keys (map (hashed plain worth) ts) ≡ map (key_of plain) ts
keys-hashed plain worth [] = refl
keys-hashed plain worth (t ∷ ts) = ap (λ l. plain t.1 ∷ l) (keys-hashed plain worth ts)

-- the references of a walk
seen : {X Y : Type 0} (plain : X → Literal) (worth : Y → Literal) (ts : List (Bor X × Bor Y)) → map (λ t. plain t.0.now) ts ≡ keys (map (seen_pair plain worth) ts)
seen plain worth [] = refl
seen plain worth (t ∷ ts) = ap (λ l. plain t.0.now ∷ l) (seen plain worth ts)

pub set-walked : {X Y : Type 0} (plain : X → Literal) (worth : Y → Literal) (rs before more : List (Bor X × Bor Y)) (ps : List Pair) → before ≡ [] → rs ≡ before ++ more → map (seen_pair plain worth) more ≡ ps → ascending (map (λ t. plain t.0.now) rs) ≡ set_of ps
set-walked plain worth rs before more ps n e f = ap (λ l. ascending (map (λ t. plain t.0.now) l)) (e ∙ ap (λ l. l ++ more) n) ∙ ap ascending (seen plain worth more) ∙ ap (λ l. ascending (keys l)) f

pub settled-walked : {X Y : Type 0} (P : X → Type 0) (S : Y → Type 0) (rs before more : List (Bor X × Bor Y)) → before ≡ [] → rs ≡ before ++ more → All (SeenSettled P S) more → All (λ t. P t.0.now) rs
settled-walked P S rs before more n e s = subst (All (λ t. P t.0.now)) (sym (e ∙ ap (λ l. l ++ more) n)) (λ k d m. (s k d m).0)
