-- The pairs while the hole moves on.
use Rattle.std.proofs.Common.{◌≡◌, ◌≢◌, ℕ, ◌-◌, ◌%◌, ◌<◌, ◌≤◌, Bool, true, false, cond, eqb, List, length, get_or, set, Option, Some, None, refl, sym, ap, subst, ◌∙◌, arith, inl, inr}
use Rattle.std.proofs.lemmas.List.{length-set, get_or-set_same, get_or-set_other}
use borrow.Author.Tests.{eqb-true, eq-eqb}
use Rattle.cow_table.specs.Pairs.{Pair, hash_at, Loses, Keeps}
use Rattle.cow_table.specs.Ring.{pairs_of, Apart, IsSize, IsRing, IsNear, HasFree, IsNext, Settles, distance}
use Rattle.cow_table.proofs.Cells.{lookup-fill, count-fill, apart-fill, lookup-empty, count-empty, apart-empty, cell-lookup}
use Rattle.cow_table.proofs.Places.{Reached, Nearby, near-fill, near-empty}
use Rattle.cow_table.proofs.Distances.{size_bounds}
use Rattle.cow_table.proofs.Shifts.{Shifting, shift-start, shift-stays, shift-moves, shift-falls, shift-ends, shift-ends-far}

-- the same pairs as in `first`, in a ring with a hole
pub record Shifted (n : ℕ) (first cs : List (Option Pair)) (start hole at reach : ℕ) : Type 0 where
  pub size : IsSize n
  pub long : length cs ≡ n
  pub shifting : Shifting n (λ j. get_or cs j None) start hole at
  pub apart : Apart (pairs_of cs)
  pub keeps : Keeps (pairs_of first) (pairs_of cs)
  pub near : IsNear reach cs

put_back : (t : Bool) (h : ℕ) (r : Option ℕ) → (t ≡ true → r ≡ Some h) → cond t (Some h) (cond t None r) ≡ r
put_back true h r e = sym (e refl)
put_back false h r e = refl

module _ (cs : List (Option Pair)) (hole at : ℕ) (e : Pair) (in_hole : hole < length cs) (in_at : at < length cs) (apart : hole ≢ at) (clear : get_or cs hole None ≡ None) (was : get_or cs at None ≡ Some e) (distinct : Apart (pairs_of cs)) where
  in_between : hole < length (set cs at None)
  in_between = omega (arith, length-set cs at None)

  still_clear : get_or (set cs at None) hole None ≡ None
  still_clear = get_or-set_other cs at hole None None apart ∙ clear

  absent : hash_at (pairs_of (set cs at None)) e.position ≡ None
  absent = lookup-empty cs at e e.position distinct in_at was ∙ ap (λ t. cond t None (hash_at (pairs_of cs) e.position)) (eq-eqb e.position e.position refl)

  pub apart-move : Apart (pairs_of (set (set cs at None) hole (Some e)))
  apart-move = apart-fill (set cs at None) hole e in_between still_clear absent (apart-empty cs at e distinct in_at was)

  pub keeps-move : Keeps (pairs_of cs) (pairs_of (set (set cs at None) hole (Some e)))
  keeps-move = record {
    lookup = λ q. lookup-fill (set cs at None) hole e q in_between still_clear absent
        ∙ ap (λ r. cond (eqb e.position q) (Some e.hash) r) (lookup-empty cs at e q distinct in_at was)
        ∙ put_back (eqb e.position q) e.hash (hash_at (pairs_of cs) q) (λ t. ap (λ y. hash_at (pairs_of cs) y) (sym (eqb-true e.position q t)) ∙ cell-lookup cs at e distinct in_at was);
    count = omega (arith, count-fill (set cs at None) hole e in_between still_clear, count-empty cs at e in_at was);
  }

near-move : (cs : List (Option Pair)) (hole at reach : ℕ) (e : Pair) → hole < length cs → at < length cs → get_or cs at None ≡ Some e → distance (length cs) (e.hash % length cs) hole < distance (length cs) (e.hash % length cs) at → IsNear reach cs → IsNear reach (set (set cs at None) hole (Some e))
near-move cs hole at reach e p q was nearer r =
    let long = length-set cs at None in
    near-fill (set cs at None) hole e (omega (arith, long)) reach
    (subst (λ n. distance n (e.hash % n) hole ≤ reach) (sym long) (omega (arith, nearer, r.near at e q was))) (near-empty cs at reach q r)

pub keeps-both : (xs ys zs : List Pair) → Keeps xs ys → Keeps ys zs → Keeps xs zs
keeps-both xs ys zs a b = record { lookup = λ q. b.lookup q ∙ a.lookup q; count = b.count ∙ a.count }

-- the start: the place is emptied
pub shifted-start : (cs : List (Option Pair)) (start at reach : ℕ) (e : Pair) → IsRing cs → HasFree cs → IsNear reach cs → start < length cs → get_or cs start None ≡ Some e → IsNext (length cs) start at
    → Shifted (length cs) (set cs start None) (set cs start None) start start at reach
shifted-start cs start at reach e r free near p was follows = record {
  size = r.size;
  long = length-set cs start None;
  shifting = shift-start (length cs) (omega (arith, size_bounds (length cs) r.size)) (λ j. get_or cs j None) (λ j. get_or (set cs start None) j None) start at free.at e p was
      (get_or-set_same cs start None None p) (λ j d. get_or-set_other cs start j None None d) r.placed.reached free.within free.free follows;
  apart = apart-empty cs start e r.apart p was;
  keeps = record { lookup = λ q. refl; count = refl };
  near = near-empty cs start reach p near;
}

module _ (n : ℕ) (first cs after : List (Option Pair)) (start hole at next place_of reach : ℕ) (s : Shifted n first cs start hole at reach) (w : Settles cs hole at after place_of) (follows : IsNext n at next) where
  -- one step
  pub shifted-more : Shifted n first after start place_of next reach
  shifted-more = elim w.way [
    | inl a ↦
        let kept = subst (λ m. distance m (w.pair.hash % m) at ≤ distance m (w.pair.hash % m) hole) s.long a.home in
        record {
          size = s.size;
          long = ap length a.cells ∙ s.long;
          shifting = subst (λ (x : List (Option Pair)). Shifting n (λ j. get_or x j None) start place_of next) (sym a.cells)
              (subst (λ y. Shifting n (λ j. get_or cs j None) start y next) (sym a.now)
              (shift-stays n (omega (arith, size_bounds n s.size)) (λ j. get_or cs j None) start hole at next s.shifting w.pair a.was follows kept));
          apart = subst (λ (x : List (Option Pair)). Apart (pairs_of x)) (sym a.cells) s.apart;
          keeps = subst (λ (x : List (Option Pair)). Keeps (pairs_of first) (pairs_of x)) (sym a.cells) s.keeps;
          near = subst (λ (x : List (Option Pair)). IsNear reach x) (sym a.cells) s.near;
        }
    | inr a ↦
        let moves = subst (λ m. distance m (w.pair.hash % m) hole < distance m (w.pair.hash % m) at) s.long a.home in
        let in_hole : hole < length cs = omega (arith, s.long, s.shifting.in_hole) in
        let in_at : at < length cs = omega (arith, s.long, s.shifting.passed.within) in
        let ne : hole ≢ at = λ v. let b = s.shifting.behind in let u = ap (λ y. distance n start y) v in omega arith in
        let ne_back : at ≢ hole = λ v. ne (sym v) in
        let clear = s.shifting.clear in
        let long_between = length-set cs at None in
        record {
          size = s.size;
          long = ap length a.cells ∙ length-set (set cs at None) hole (Some w.pair) ∙ long_between ∙ s.long;
          shifting = subst (λ (x : List (Option Pair)). Shifting n (λ j. get_or x j None) start place_of next) (sym a.cells)
              (subst (λ y. Shifting n (λ j. get_or (set (set cs at None) hole (Some w.pair)) j None) start y next) (sym a.now)
              (shift-moves n (omega (arith, size_bounds n s.size)) (λ j. get_or cs j None) start hole at next s.shifting w.pair a.was follows
              (λ j. get_or (set (set cs at None) hole (Some w.pair)) j None)
              (get_or-set_same (set cs at None) hole (Some w.pair) None (omega (arith, long_between)))
              (get_or-set_other (set cs at None) hole at (Some w.pair) None ne_back ∙ get_or-set_same cs at None None in_at)
              (λ j d b. get_or-set_other (set cs at None) hole j (Some w.pair) None d ∙ get_or-set_other cs at j None None b) moves));
          apart = subst (λ (x : List (Option Pair)). Apart (pairs_of x)) (sym a.cells) (apart-move cs hole at w.pair in_hole in_at ne clear a.was s.apart);
          keeps = subst (λ (x : List (Option Pair)). Keeps (pairs_of first) (pairs_of x)) (sym a.cells)
              (keeps-both (pairs_of first) (pairs_of cs) (pairs_of (set (set cs at None) hole (Some w.pair))) s.keeps (keeps-move cs hole at w.pair in_hole in_at ne clear a.was s.apart));
          near = subst (λ (x : List (Option Pair)). IsNear reach x) (sym a.cells) (near-move cs hole at reach w.pair in_hole in_at a.was a.home s.near);
        }
  ]

  pub shifted-falls : n - distance n start next < n - distance n start at
  shifted-falls = elim w.way [
    | inl a ↦ shift-falls n (omega (arith, size_bounds n s.size)) (λ j. get_or cs j None) start hole at next s.shifting w.pair a.was follows
    | inr a ↦ shift-falls n (omega (arith, size_bounds n s.size)) (λ j. get_or cs j None) start hole at next s.shifting w.pair a.was follows
  ]

module _ (n : ℕ) (first cs : List (Option Pair)) (start hole at reach : ℕ) (s : Shifted n first cs start hole at reach) where
  by_reached : Reached n (λ j. get_or cs j None) → IsRing cs
  by_reached r = record {
    size = subst IsSize (sym s.long) s.size;
    placed = record { reached = subst (λ m. Reached m (λ j. get_or cs j None)) (sym s.long) r };
    apart = s.apart;
  }

  -- the end: the place after the run is free
  pub shifted-ends : get_or cs at None ≡ None → IsRing cs
  shifted-ends free = by_reached (shift-ends n (omega (arith, size_bounds n s.size)) (λ j. get_or cs j None) start hole at s.shifting free)

  -- or too far from the hole for a pair that it cuts off
  pub shifted-ends-far : reach < distance n hole at → IsRing cs
  shifted-ends-far far = by_reached
      (shift-ends-far n (omega (arith, size_bounds n s.size)) (λ j. get_or cs j None) start hole at reach s.shifting
      (subst (λ m. Nearby reach m (λ j. get_or cs j None)) s.long s.near.near) far)

pub loses-by : (e : Pair) (before first after : List Pair) → Loses e.position before first → Keeps first after → Loses e.position before after
loses-by e before first after l k = record { lookup = λ q. k.lookup q ∙ l.lookup q; count = omega (arith, l.count, k.count) }

pub loses-empty : (cs : List (Option Pair)) (at : ℕ) (e : Pair) → Apart (pairs_of cs) → at < length cs → get_or cs at None ≡ Some e → Loses e.position (pairs_of cs) (pairs_of (set cs at None))
loses-empty cs at e p l was = record { lookup = λ q. lookup-empty cs at e q p l was; count = count-empty cs at e l was }
