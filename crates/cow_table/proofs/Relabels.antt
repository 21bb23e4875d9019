-- Every pair gets another position.
use Rattle.std.proofs.Common.{◌≡◌, ◌≢◌, ℕ, zero, suc, ◌+◌, ◌-◌, ◌<◌, ◌≤◌, cond, eqb, leb, Bool, true, false, List, [], ◌∷◌, ◌++◌, map, length, get_or, set, take, drop, Option, Some, None, refl, sym, ap, subst, ◌∙◌, arith, inl, inr}
use Rattle.std.specs.Prelude.{option_map, ⊤}
use Rattle.std.proofs.lemmas.List.{length-map, length-set, get_or-set_same, get_or-set_other, ext_get_or, take_at}
use Rattle.std.proofs.lemmas.Bool.{cases_eq}
use Rattle.std.proofs.lemmas.Bool.Decides.{nat_tests}
use borrow.Author.Tests.{eqb-true, eqb-false}
use Rattle.cow_table.specs.Pairs.{Pair, hash_at, Closes, Opens}
use Rattle.cow_table.specs.Ring.{cells, pairs_of, limit, Apart, IsSize, IsRing, IsNear, IsTable, relabelled, shut, opened}
use Rattle.cow_table.specs.declared.ring.Bucket.{Bucket}
use Rattle.cow_table.proofs.Cells.{not-first}
use Rattle.cow_table.proofs.Places.{Reached, Nearby, Some-same}
use Rattle.cow_table.proofs.Renames.{Reached-like, Nearby-like}

-- ---- the loop
-- of the cells `first`, those before k are mapped
pub record Mapped (f : Pair → Pair) (first cs : List (Option Pair)) (k : ℕ) : Type 0 where
  pub long : length cs ≡ length first
  pub done : (j : ℕ) → j < k → get_or cs j None ≡ option_map f (get_or first j None)
  pub rest : (j : ℕ) → k ≤ j → get_or cs j None ≡ get_or first j None

pub mapped-none : (f : Pair → Pair) (cs : List (Option Pair)) → Mapped f cs cs 0
mapped-none f cs = record { long = refl; done = λ j p. absurd (omega arith); rest = λ j p. refl }

pub mapped-more : (f : Pair → Pair) (first cs : List (Option Pair)) (k : ℕ) (x : Option Pair) → k < length first → Mapped f first cs k → x ≡ option_map f (get_or cs k None) → Mapped f first (set cs k x) (k + 1)
mapped-more f first cs k x l m e = record {
  long = length-set cs k x ∙ m.long;
  done = λ j p. elim (cases_eq j k) [
    | inl w ↦ ap (λ i. get_or (set cs k x) i None) w ∙ get_or-set_same cs k x None (omega (arith, m.long)) ∙ e ∙ ap (λ y. option_map f y) (m.rest k (omega arith)) ∙ ap (λ i. option_map f (get_or first i None)) (sym w)
    | inr w ↦ get_or-set_other cs k j x None w ∙ m.done j (omega arith)
  ];
  rest = λ j p. get_or-set_other cs k j x None (λ w. omega arith) ∙ m.rest j (omega arith);
}

get-map : (f : Pair → Pair) (cs : List (Option Pair)) (i : ℕ) → get_or (map (option_map f) cs) i None ≡ option_map f (get_or cs i None)
get-map f [] i = refl
get-map f (x ∷ cs) zero = refl
get-map f (x ∷ cs) (suc i) = get-map f cs i

pub mapped-all : (f : Pair → Pair) (first cs : List (Option Pair)) (k : ℕ) → Mapped f first cs k → k ≡ length first → cs ≡ map (option_map f) first
mapped-all f first cs k m e = ext_get_or None cs (map (option_map f) first) (m.long ∙ sym (length-map first (option_map f))) (λ i p. m.done i (omega (arith, m.long)) ∙ sym (get-map f first i))

-- ---- the pairs
-- P holds of each position
abbrev Each : (ℕ → Type 0) → List Pair → Type 0
Each P [] = ⊤
Each P (e ∷ es) = P e.position × Each P es

pairs-map : (f : Pair → Pair) (cs : List (Option Pair)) → pairs_of (map (option_map f) cs) ≡ map f (pairs_of cs)
pairs-map f [] = refl
pairs-map f (None ∷ cs) = pairs-map f cs
pairs-map f (Some e ∷ cs) = ap (λ es. f e ∷ es) (pairs-map f cs)

like-by : (h : ℕ) (f : ℕ → ℕ) (x : Option Pair) (e : Pair) → option_map (relabelled f) x ≡ Some e → (y : Pair) × (x ≡ Some y) × (y.hash ≡ e.hash)
like-by h f None e s = cc
like-by h f (Some y) e s = (y, refl, ap (λ (z : Pair). z.hash) (Some-same (relabelled f y) e s))

module _ (f : ℕ → ℕ) where
  like : (x : Option Pair) (e : Pair) → option_map (relabelled f) x ≡ Some e → (y : Pair) × (x ≡ Some y) × (y.hash ≡ e.hash)
  like x e s = like-by 0 f x e s

  free : (x : Option Pair) → option_map (relabelled f) x ≡ None → x ≡ None
  free None s = refl
  free (Some y) s = cc

  lookup-map : (q r : ℕ) (es : List Pair) → Each (λ p. eqb (f p) q ≡ eqb p r) es → hash_at (map (relabelled f) es) q ≡ hash_at es r
  lookup-map q r [] a = refl
  lookup-map q r (e ∷ es) a = ap (λ t. cond t (Some e.hash) (hash_at (map (relabelled f) es) q)) a.0 ∙ ap (λ x. cond (eqb e.position r) (Some e.hash) x) (lookup-map q r es a.1)

  lookup-none : (q : ℕ) (es : List Pair) → Each (λ p. eqb (f p) q ≡ false) es → hash_at (map (relabelled f) es) q ≡ None
  lookup-none q [] a = refl
  lookup-none q (e ∷ es) a = ap (λ t. cond t (Some e.hash) (hash_at (map (relabelled f) es) q)) a.0 ∙ lookup-none q es a.1

  all-one : (P : ℕ → Type 0) → ((p q : ℕ) → P p → P q → eqb (f p) (f q) ≡ eqb p q) → (q : ℕ) → P q → (es : List Pair) → Each P es → Each (λ p. eqb (f p) (f q) ≡ eqb p q) es
  all-one P one q b [] a = tt
  all-one P one q b (e ∷ es) a = (one e.position q a.0 b, all-one P one q b es a.1)

  -- positions that f keeps apart
  apart-map : (P : ℕ → Type 0) → ((p q : ℕ) → P p → P q → eqb (f p) (f q) ≡ eqb p q) → (es : List Pair) → Each P es → Apart es → Apart (map (relabelled f) es)
  apart-map P one [] a d = d
  apart-map P one (e ∷ es) a d = (lookup-map (f e.position) e.position es (all-one P one e.position a.0 es a.1) ∙ d.0, apart-map P one es a.1 d.1)

  -- a ring stays one
  ring-map : (cs : List (Option Pair)) → IsRing cs → Apart (map (relabelled f) (pairs_of cs)) → IsRing (map (option_map (relabelled f)) cs)
  ring-map cs r apart = record {
    size = subst IsSize (sym (length-map cs (option_map (relabelled f)))) r.size;
    placed = record {
      reached = subst (λ n. Reached n (λ j. get_or (map (option_map (relabelled f)) cs) j None)) (sym (length-map cs (option_map (relabelled f))))
          (Reached-like (length cs) (λ j. get_or cs j None) (λ j. get_or (map (option_map (relabelled f)) cs) j None)
          (λ i e is. like (get_or cs i None) e (sym (get-map (relabelled f) cs i) ∙ is)) (λ i is. free (get_or cs i None) (sym (get-map (relabelled f) cs i) ∙ is)) r.placed.reached);
    };
    apart = subst Apart (sym (pairs-map (relabelled f) cs)) apart;
  }

  near-map : (cs : List (Option Pair)) (reach : ℕ) → IsNear reach cs → IsNear reach (map (option_map (relabelled f)) cs)
  near-map cs reach r = record {
    near = subst (λ n. Nearby reach n (λ j. get_or (map (option_map (relabelled f)) cs) j None)) (sym (length-map cs (option_map (relabelled f))))
        (Nearby-like reach (length cs) (λ j. get_or cs j None) (λ j. get_or (map (option_map (relabelled f)) cs) j None) (λ i e is. like (get_or cs i None) e (sym (get-map (relabelled f) cs i) ∙ is)) r.near);
  }

-- ---- closing and opening
all-not : (i : ℕ) (es : List Pair) → hash_at es i ≡ None → Each (λ p. p ≢ i) es
all-not i [] a = tt
all-not i (e ∷ es) a = let n = not-first (eqb e.position i) e.hash (hash_at es i) a in (eqb-false e.position i n.0, all-not i es n.1)

all-any : (P : ℕ → Type 0) → ((p : ℕ) → P p) → (es : List Pair) → Each P es
all-any P all [] = tt
all-any P all (e ∷ es) = (all e.position, all-any P all es)

all-from : (P Q : ℕ → Type 0) → ((p : ℕ) → P p → Q p) → (es : List Pair) → Each P es → Each Q es
all-from P Q f [] a = tt
all-from P Q f (e ∷ es) a = (f e.position a.0, all-from P Q f es a.1)

shut-one : (i p q : ℕ) → p ≢ i → q ≢ i → eqb (shut i p) (shut i q) ≡ eqb p q
shut-one i p q a b = grind (arith, nat_tests)

shut-back : (i p q : ℕ) → p ≢ i → eqb (shut i p) q ≡ eqb p (cond (leb (suc q) i) q (q + 1))
shut-back i p q a = grind (arith, nat_tests)

opened-one : (i p q : ℕ) → eqb (opened i p) (opened i q) ≡ eqb p q
opened-one i p q = grind (arith, nat_tests)

opened-back : (i p q : ℕ) → q ≢ i → eqb (opened i p) q ≡ eqb p (cond (leb (suc q) i) q (q - 1))
opened-back i p q a = grind (arith, nat_tests)

opened-never : (i p : ℕ) → eqb (opened i p) i ≡ false
opened-never i p = grind (arith, nat_tests)

module _ (cs after : List (Option Pair)) (i : ℕ) (r : IsRing cs) where
  pub ring-close : hash_at (pairs_of cs) i ≡ None → after ≡ map (option_map (relabelled (shut i))) cs → IsRing after × Closes i (pairs_of cs) (pairs_of after)
  ring-close none same =
      let others = all-not i (pairs_of cs) none in
      let ps = ap pairs_of same ∙ pairs-map (relabelled (shut i)) cs in (
        subst IsRing (sym same) (ring-map (shut i) cs r (apart-map (shut i) (λ p. p ≢ i) (shut-one i) (pairs_of cs) others r.apart)),
        subst (λ (es : List Pair). Closes i (pairs_of cs) es) (sym ps) (record {
          lookup = λ q. lookup-map (shut i) q (cond (leb (suc q) i) q (q + 1)) (pairs_of cs) (all-from (λ p. p ≢ i) (λ p. eqb (shut i p) q ≡ eqb p (cond (leb (suc q) i) q (q + 1))) (λ p d. shut-back i p q d) (pairs_of cs) others);
          count = length-map (pairs_of cs) (relabelled (shut i));
        }),
      )

  opens-by : (q : ℕ) (t : Bool) → eqb q i ≡ t → hash_at (map (relabelled (opened i)) (pairs_of cs)) q ≡ cond t None (hash_at (pairs_of cs) (cond (leb (suc q) i) q (q - 1)))
  opens-by q true e = subst (λ k. hash_at (map (relabelled (opened i)) (pairs_of cs)) k ≡ None) (sym (eqb-true q i e)) (lookup-none (opened i) i (pairs_of cs) (all-any (λ p. eqb (opened i p) i ≡ false) (opened-never i) (pairs_of cs)))
  opens-by q false e = lookup-map (opened i) q (cond (leb (suc q) i) q (q - 1)) (pairs_of cs) (all-any (λ p. eqb (opened i p) q ≡ eqb p (cond (leb (suc q) i) q (q - 1))) (λ p. opened-back i p q (eqb-false q i e)) (pairs_of cs))

  pub ring-open : after ≡ map (option_map (relabelled (opened i))) cs → IsRing after × Opens i (pairs_of cs) (pairs_of after)
  ring-open same =
      let ps = ap pairs_of same ∙ pairs-map (relabelled (opened i)) cs in (
        subst IsRing (sym same) (ring-map (opened i) cs r (apart-map (opened i) (λ p. ⊤) (λ p q _ _. opened-one i p q) (pairs_of cs) (all-any (λ p. ⊤) (λ p. tt) (pairs_of cs)) r.apart)),
        subst (λ (es : List Pair). Opens i (pairs_of cs) es) (sym ps) (record {
          lookup = λ q. opens-by q (eqb q i) refl;
          count = length-map (pairs_of cs) (relabelled (opened i));
        }),
      )

-- a table, the buckets of which are written by a slice of all of them
pub write_whole : (n : ℕ) (bs cs : List Bucket) → length cs ≡ n → take n (cs ++ drop (length cs) bs) ≡ cs
write_whole n bs cs e = take_at cs (drop (length cs) bs) n e

pub table-map : (f : ℕ → ℕ) (bs after : List Bucket) (room reach : ℕ) → IsTable bs room reach → IsRing (cells after) → length after ≡ length bs → length (pairs_of (cells after)) ≡ length (pairs_of (cells bs))
    → cells after ≡ map (option_map (relabelled f)) (cells bs) → IsTable after room reach
table-map f bs after room reach t r long count same = record {
  ring = r;
  load = subst (λ n. length (pairs_of (cells after)) + room ≡ limit n) (sym long) (omega (arith, count, t.load));
  near = subst (IsNear reach) (sym same) (near-map f (cells bs) reach t.near);
}
