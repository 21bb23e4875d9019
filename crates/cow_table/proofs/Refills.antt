-- The pairs of the last cells of a ring, which are added to another one by one.
use Rattle.std.proofs.Common.{◌≡◌, Less, Equal, Greater, ℕ, zero, suc, ◌+◌, ◌<◌, ◌≤◌, Bool, true, false, cond, eqb, leb, List, [], ◌∷◌, length, get_or, replicate, drop, Option, Some, None, refl, sym, ap, subst, ◌∙◌, arith}
use Rattle.std.proofs.lemmas.List.{drop_more, drop_all, get_or-replicate, length-replicate}
use Rattle.std.specs.Ordering.{is_lt, ord_max, nat_cmp}
use borrow.Author.Tests.{leb-true, leb-false}
use Rattle.cow_table.specs.Pairs.{Pair, hash_at, Keeps}
use Rattle.cow_table.specs.Ring.{cells, pairs_of, Adds, Apart, IsSize, IsRing, IsNear, StaysNear, HasFree}
use Rattle.cow_table.proofs.Cells.{free-cell, cell-lookup}
use Rattle.cow_table.proofs.Places.{near-wider}

-- of the ring `from`, the pairs from cell i on have been added to `to`
pub record Refilled (from to : List (Option Pair)) (wide i reach : ℕ) : Type 0 where
  pub within : i ≤ length from
  pub long : length to ≡ wide
  pub ring : IsRing to
  pub keeps : Keeps (pairs_of (drop i from)) (pairs_of to)
  pub near : IsNear reach to

apart-one : (x : Option Pair) (cs : List (Option Pair)) → Apart (pairs_of (x ∷ cs)) → Apart (pairs_of cs)
apart-one None cs p = p
apart-one (Some e) cs p = p.1

count-one : (x : Option Pair) (cs : List (Option Pair)) → length (pairs_of cs) ≤ length (pairs_of (x ∷ cs))
count-one None cs = omega arith
count-one (Some e) cs = omega arith

pub apart-drop : (i : ℕ) (cs : List (Option Pair)) → Apart (pairs_of cs) → Apart (pairs_of (drop i cs))
apart-drop zero cs p = p
apart-drop (suc i) [] p = p
apart-drop (suc i) (x ∷ cs) p = apart-drop i cs (apart-one x cs p)

pub count-drop : (i : ℕ) (cs : List (Option Pair)) → length (pairs_of (drop i cs)) ≤ length (pairs_of cs)
count-drop zero cs = omega arith
count-drop (suc i) [] = omega arith
count-drop (suc i) (x ∷ cs) = omega (arith, count-drop i cs, count-one x cs)

-- a pair before others, and the same added to a ring of the others
adds-front : (x : Option Pair) (cs : List (Option Pair)) (before after : List Pair) → Keeps (pairs_of cs) before → Adds x before after → Keeps (pairs_of (x ∷ cs)) after
adds-front None cs before after k a = record { lookup = λ q. a.lookup q ∙ k.lookup q; count = a.count ∙ k.count }
adds-front (Some e) cs before after k a = record { lookup = λ q. a.lookup q ∙ ap (λ r. cond (eqb e.position q) (Some e.hash) r) (k.lookup q); count = omega (arith, a.count, k.count) }

front-absent : (x : Option Pair) (e : Pair) (cs : List (Option Pair)) → x ≡ Some e → Apart (pairs_of (x ∷ cs)) → hash_at (pairs_of cs) e.position ≡ None
front-absent None e cs s p = cc
front-absent (Some y) e cs s p = let z : y ≡ e = cc in subst (λ (k : Pair). hash_at (pairs_of cs) k.position ≡ None) z p.0

module _ (from to : List (Option Pair)) (wide i reach : ℕ) (s : Refilled from to wide i reach) (distinct : Apart (pairs_of from)) (few : length (pairs_of from) < wide) where
  pub refill-free : HasFree to
  refill-free = free-cell to (omega (arith, s.long, s.keeps.count, count-drop i from))

  pub refill-absent : (j : ℕ) (e : Pair) → i ≡ j + 1 → get_or from j None ≡ Some e → hash_at (pairs_of to) e.position ≡ None
  refill-absent j e z was =
      let front = drop_more from j None (omega (arith, s.within)) in
      s.keeps.lookup e.position ∙ ap (λ n. hash_at (pairs_of (drop n from)) e.position) z
      ∙ front-absent (get_or from j None) e (drop (j + 1) from) was (subst (λ (x : List (Option Pair)). Apart (pairs_of x)) front (apart-drop j from distinct))

  pub refill-step : (j far wider : ℕ) (after : List (Option Pair)) (x : Option Pair) → i ≡ j + 1 → get_or from j None ≡ x → length after ≡ wide → IsRing after → Adds x (pairs_of to) (pairs_of after) → StaysNear far to after → far ≤ wider → reach ≤ wider → Refilled from after wide j wider
  refill-step j far wider after x z was long ring adds stays p q = record {
    within = omega (arith, s.within);
    long = long;
    ring = ring;
    keeps = subst (λ (y : List (Option Pair)). Keeps (pairs_of y) (pairs_of after)) (sym (drop_more from j None (omega (arith, s.within)) ∙ ap (λ y. y ∷ drop (j + 1) from) was))
        (adds-front x (drop (j + 1) from) (pairs_of to) (pairs_of after) (subst (λ n. Keeps (pairs_of (drop n from)) (pairs_of to)) z s.keeps) adds);
    near = stays wider p (near-wider reach wider to q s.near);
  }

greater-by : (a b : ℕ) (less same : Bool) → leb (suc b) a ≡ less
    → (a ≤ cond (is_lt (cond less Less (cond same Equal Greater))) a b) × (b ≤ cond (is_lt (cond less Less (cond same Equal Greater))) a b)
greater-by a b true same e = let h = leb-true (suc b) a e in (omega arith, omega arith)
greater-by a b false true e = let h = leb-false (suc b) a e in (omega arith, omega arith)
greater-by a b false false e = let h = leb-false (suc b) a e in (omega arith, omega arith)

-- the greater of two numbers is below neither
pub greater : (a b : ℕ) → (a ≤ ord_max nat_cmp a b) × (b ≤ ord_max nat_cmp a b)
greater a b = greater-by a b (leb (suc b) a) (eqb b a) refl

-- no pairs, so none far from its home
near-none : (cs : List (Option Pair)) (reach : ℕ) → Apart (pairs_of cs) → pairs_of cs ≡ [] → IsNear reach cs
near-none cs reach apart none = record { near = λ i e p was. absurd (let a = cell-lookup cs i e apart p was in let b = ap (λ es. hash_at es e.position) none in cc) }

pub refill-start : (from to : List (Option Pair)) (i wide : ℕ) → i ≡ length from → length to ≡ wide → IsRing to → pairs_of to ≡ [] → Refilled from to wide i 0
refill-start from to i wide z long ring none = record {
  within = omega arith;
  long = long;
  ring = ring;
  keeps = subst (λ (x : List Pair). Keeps (pairs_of (drop i from)) x) (sym none) (subst (λ (y : List (Option Pair)). Keeps (pairs_of y) []) (sym (drop_all i from (omega arith))) (record { lookup = λ q. refl; count = refl }));
  near = near-none to 0 ring.apart none;
}

abbrev nowhere : Option Pair
nowhere = None

nothing : (n i : ℕ) → i < n → get_or (replicate n nowhere) i nowhere ≡ nowhere
nothing n i l = get_or-replicate n i nowhere nowhere l

-- a ring without pairs
pub blank-cells : (n : ℕ) → cells (replicate n (record { hash = 0; position = 4294967295 })) ≡ replicate n None
blank-cells zero = refl
blank-cells (suc n) = ap (λ (x : List (Option Pair)). None ∷ x) (blank-cells n)

none-there : (n : ℕ) → pairs_of (replicate n None) ≡ []
none-there zero = refl
none-there (suc n) = none-there n

pub blank-pairs : (n : ℕ) → pairs_of (cells (replicate n (record { hash = 0; position = 4294967295 }))) ≡ []
blank-pairs n = ap pairs_of (blank-cells n) ∙ none-there n

blank-ring_of : (n : ℕ) → IsSize n → IsRing (replicate n None)
blank-ring_of n s = let long : length (replicate n (nowhere)) ≡ n = length-replicate n nowhere in record {
  size = subst IsSize (sym (length-replicate n None)) s;
  placed = record { reached = λ i j e p q was d. absurd (let u = nothing n i (omega (arith, long)) in cc) };
  apart = subst Apart (sym (none-there n)) tt;
}

pub blank-ring : (n : ℕ) → IsSize n → IsRing (cells (replicate n (record { hash = 0; position = 4294967295 })))
blank-ring n s = subst IsRing (sym (blank-cells n)) (blank-ring_of n s)

pub blank-near : (n : ℕ) → IsSize n → IsNear 0 (cells (replicate n (record { hash = 0; position = 4294967295 })))
blank-near n s = near-none (cells (replicate n (record { hash = 0; position = 4294967295 }))) 0 (blank-ring n s).apart (blank-pairs n)
