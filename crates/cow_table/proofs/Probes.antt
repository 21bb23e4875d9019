-- A walk round the ring: what holds of each place that was passed.
use Rattle.std.proofs.Common.{◌≡◌, ◌≢◌, ℕ, zero, suc, ◌+◌, ◌-◌, ◌<◌, Bool, true, false, cond, eqb, List, [], ◌∷◌, length, get_or, set, Option, Some, None, refl, sym, ap, subst, ◌∙◌, arith, inl, inr}
use Rattle.std.proofs.lemmas.List.{length-map, map-set}
use borrow.Author.Tests.{eqb-true, eqb-false, eq-eqb}
use native.Mathlib.Decide.{dec_lt}
use Rattle.cow_table.specs.Pairs.{Pair}
use Rattle.cow_table.specs.Ring.{seen, cells, HasPair, HasFree, IsNext, distance}
use Rattle.cow_table.specs.declared.ring.Bucket.{Bucket}
use Rattle.cow_table.proofs.Distances.{distance_self, distance_next, distance-below, same_place}

-- P holds of each place from `start` on, before `at`
pub record Passed (P : ℕ → Type 0) (n start at : ℕ) : Type 0 where
  pub within : at < n
  pub before : (j : ℕ) → j < n → distance n start j < distance n start at → P j

pub passed-none : (P : ℕ → Type 0) (n start : ℕ) → start < n → Passed P n start start
passed-none P n start s = record { within = s; before = λ j p q. absurd (omega (arith, distance_self n start s)) }

module _ (P : ℕ → Type 0) (n start : ℕ) (in_start : start < n) (at next : ℕ) (w : Passed P n start at) (here : P at) (follows : IsNext n at next) where
  by_place : (j : ℕ) → j < n → distance n start j < distance n start at + 1 → P j
  by_place j p q = elim (dec_lt (distance n start j) (distance n start at)) [
    | yes r ↦ w.before j p r
    | no r ↦ let e = same_place n start in_start j at p w.within (omega arith) in subst P (sym e) here
  ]

  -- unless P holds everywhere, the walk goes one step on
  pub passed-step : (((j : ℕ) → j < n → P j) → ⊥) → (distance n start next ≡ distance n start at + 1) × (next < n)
  passed-step some = let d = distance_next n start in_start at next w.within follows in
      elim d.1 [
        | inl s ↦ absurd (some (λ j p. by_place j p (omega (arith, distance-below n start in_start j p, s.1))))
        | inr s ↦ (s, d.0)
      ]

  pub passed-more : (((j : ℕ) → j < n → P j) → ⊥) → Passed P n start next
  passed-more some = let d = passed-step some in record { within = d.1; before = λ j p q. by_place j p (omega (arith, d.0)) }

  pub passed-falls : (((j : ℕ) → j < n → P j) → ⊥) → n - distance n start next < n - distance n start at
  passed-falls some = let d = passed-step some in omega (arith, d.0, distance-below n start in_start next d.1)

-- the cell of a bucket
pub cell-at : (bs : List Bucket) (i : ℕ) (d : Bucket) → i < length bs → get_or (cells bs) i None ≡ seen (get_or bs i d)
cell-at [] i d l = absurd (omega arith)
cell-at (b ∷ bs) zero d l = refl
cell-at (b ∷ bs) (suc i) d l = cell-at bs i d (omega arith)

pub cell-read : (bs : List Bucket) (i : ℕ) (b : Bucket) → i < length bs → b ≡ get_or bs i b → get_or (cells bs) i None ≡ seen b
cell-read bs i b l e = cell-at bs i b l ∙ ap seen (sym e)

free-by : (b : Bucket) (t : Bool) → eqb b.position 4294967295 ≡ t → cond {A = Option Pair} t None (Some (record { hash = b.hash; position = b.position })) ≡ None → b.position ≡ 4294967295
free-by b true s e = eqb-true b.position 4294967295 s
free-by b false s e = cc

pub seen-free : (b : Bucket) → b.position ≡ 4294967295 → seen b ≡ None
seen-free b e = ap (λ t. cond {A = Option Pair} t None (Some (record { hash = b.hash; position = b.position }))) (eq-eqb b.position 4294967295 e)

filled-by : (b : Bucket) (t : Bool) → eqb b.position 4294967295 ≡ t → b.position ≢ 4294967295 → cond {A = Option Pair} t None (Some (record { hash = b.hash; position = b.position })) ≡ Some (record { hash = b.hash; position = b.position })
filled-by b true s d = absurd (d (eqb-true b.position 4294967295 s))
filled-by b false s d = refl

is-by : (b : Bucket) (e : Pair) (t : Bool) → eqb b.position 4294967295 ≡ t → cond {A = Option Pair} t None (Some (record { hash = b.hash; position = b.position })) ≡ Some e → (b.position ≢ 4294967295) × (b.hash ≡ e.hash) × (b.position ≡ e.position)
is-by b e true s a = cc
is-by b e false s a = let z : record { hash = b.hash; position = b.position } ≡ e = cc in (eqb-false b.position 4294967295 s, ap (λ (y : Pair). y.hash) z, ap (λ (y : Pair). y.position) z)

-- what a filled bucket holds
pub seen-is : (b : Bucket) (e : Pair) → seen b ≡ Some e → (b.position ≢ 4294967295) × (b.hash ≡ e.hash) × (b.position ≡ e.position)
seen-is b e s = is-by b e (eqb b.position 4294967295) refl s

pub seen-filled : (b : Bucket) → b.position ≢ 4294967295 → seen b ≡ Some (record { hash = b.hash; position = b.position })
seen-filled b d = filled-by b (eqb b.position 4294967295) refl d

-- a pair is nowhere but where it is
pub there : (cs : List (Option Pair)) (h p : ℕ) → HasPair cs h p → ((j : ℕ) → j < length cs → get_or cs j None ≢ Some (record { hash = h; position = p })) → ⊥
there cs h p w none_is = none_is w.at w.within w.is

pub open_place : (cs : List (Option Pair)) → HasFree cs → ((j : ℕ) → j < length cs → get_or cs j None ≢ None) → ⊥
open_place cs w none_is = none_is w.at w.within w.free

abbrev blank : Bucket
blank = record { hash = 0; position = 0 }

module _ (bs : List Bucket) (i : ℕ) (l : i < length bs) where
  pub holds-free : (get_or bs i (record { hash = 0; position = 0 })).position ≡ 4294967295 → get_or (cells bs) i None ≡ None
  holds-free e = cell-at bs i blank l ∙ seen-free (get_or bs i blank) e

  pub holds-some : (get_or bs i (record { hash = 0; position = 0 })).position ≢ 4294967295
      → get_or (cells bs) i None ≡ Some (record { hash = (get_or bs i (record { hash = 0; position = 0 })).hash; position = (get_or bs i (record { hash = 0; position = 0 })).position })
  holds-some d = cell-at bs i blank l ∙ seen-filled (get_or bs i blank) d

  pub holds-filled : (get_or bs i (record { hash = 0; position = 0 })).position ≢ 4294967295 → get_or (cells bs) i None ≢ None
  holds-filled d e = let a = holds-some d in cc

  -- a filled cell holds what its bucket says
  pub holds-is : (e : Pair) → get_or (cells bs) i None ≡ Some e
      → ((get_or bs i (record { hash = 0; position = 0 })).position ≢ 4294967295) × ((get_or bs i (record { hash = 0; position = 0 })).hash ≡ e.hash) × ((get_or bs i (record { hash = 0; position = 0 })).position ≡ e.position)
  holds-is e s = seen-is (get_or bs i blank) e (sym (cell-at bs i blank l) ∙ s)

pub length-cells : (bs : List Bucket) → length (cells bs) ≡ length bs
length-cells bs = length-map bs seen

-- no pair has the position that stands for nothing
pub real_position : (bs : List Bucket) (h p : ℕ) → HasPair (cells bs) h p → p ≢ 4294967295
real_position bs h p w e = let a = holds-is bs w.at (omega (arith, length-cells bs, w.within)) _ w.is in a.0 (a.2 ∙ e)

-- a bucket is written
pub cells-set : (bs : List Bucket) (i : ℕ) (b : Bucket) → cells (set bs i b) ≡ set (cells bs) i (seen b)
cells-set bs i b = map-set seen bs i b

pub cells-clear : (bs : List Bucket) (i : ℕ) → cells (set bs i (record { hash = 0; position = 4294967295 })) ≡ set (cells bs) i None
cells-clear bs i = map-set seen bs i (record { hash = 0; position = 4294967295 })
