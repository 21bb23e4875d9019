-- What a search by hash finds.
use Rattle.std.proofs.Common.{◌≡◌, ◌≢◌, ℕ, ◌+◌, ◌-◌, ◌%◌, ◌<◌, ◌≤◌, Bool, true, false, List, length, get_or, Option, Some, None, sym, ap, subst, ◌∙◌, arith}
use Rattle.std.specs.Prelude.{option_map}
use native.Mathlib.Decide.{dec_lt}
use Rattle.cow_table.specs.Pairs.{Pair, hash_at}
use Rattle.cow_table.specs.Ring.{cells, pairs_of, IsRing, IsNear, IsTable, HasFree, IsNext, Apart, distance}
use Rattle.cow_table.specs.declared.ring.Bucket.{Bucket}
use Rattle.cow_table.proofs.Cells.{lookup-cell, cell-lookup, free-cell}
use Rattle.cow_table.proofs.Probes.{Passed, passed-step, passed-more, holds-filled, holds-is, length-cells}
use Rattle.cow_table.proofs.Distances.{same_place, size_bounds}

-- the cell is filled, and its key isn't the one that is sought: `key p` is the plain key at p, if there is one
pub record Missed {A : Type 0} (key : ℕ → Option A) (sought : A) (cell : Option Pair) : Type 0 where
  pub filled : cell ≢ None
  pub differs : (e : Pair) → cell ≡ Some e → key e.position ≢ Some sought

pub missed-everywhere : {A : Type 0} (key : ℕ → Option A) (sought : A) (cs : List (Option Pair)) → HasFree cs → ((j : ℕ) → j < length cs → Missed key sought (get_or cs j None)) → ⊥
missed-everywhere key sought cs f every = (every f.at f.within).filled f.free

-- at a free place: a pair further on would have been reached past it, and one before was passed
pub absent-at-free : {A : Type 0} (key : ℕ → Option A) (sought : A) (hash : A → ℕ) (cs : List (Option Pair)) (at : ℕ) → IsRing cs → get_or cs at None ≡ None
    → Passed (λ j. Missed key sought (get_or cs j None)) (length cs) (hash sought % length cs) at
    → ((p h : ℕ) → hash_at (pairs_of cs) p ≡ Some h → option_map hash (key p) ≡ Some h)
    → (p h : ℕ) → hash_at (pairs_of cs) p ≡ Some h → key p ≢ Some sought
absent-at-free key sought hash cs at r free passed keys p h there same =
    let n : ℕ = length cs in
    let w = lookup-cell cs p h there in
    let mine : hash sought ≡ h = let z = keys p h there in let y = ap (λ k. option_map hash k) same in cc in
    let in_home : hash sought % length cs < length cs = omega (arith, size_bounds (length cs) r.size) in
    elim (dec_lt (distance (length cs) (hash sought % length cs) w.at) (distance (length cs) (hash sought % length cs) at)) [
      | yes d ↦ (passed.before w.at w.within d).differs (record { hash = h; position = p }) w.is same
      | no d ↦ elim (dec_lt (distance (length cs) (hash sought % length cs) at) (distance (length cs) (hash sought % length cs) w.at)) [
        | yes f ↦ r.placed.reached w.at at (record { hash = h; position = p }) w.within passed.within w.is
            (subst (λ g. distance (length cs) (g % length cs) at < distance (length cs) (g % length cs) w.at) mine f) free
        | no f ↦
            let e = same_place (length cs) (hash sought % length cs) in_home w.at at w.within passed.within (omega arith) in
            let u = ap (λ y. get_or cs y None) e in let is = w.is in cc
      ]
    ]

-- the steps from `start` on, of `reach` at most: P holds of each place that was passed, and `left` more may be taken
pub record Probing (P : ℕ → Type 0) (n start at left reach : ℕ) : Type 0 where
  pub passed : Passed P n start at
  pub taken : left + distance n start at ≡ reach

pub probing-more : (P : ℕ → Type 0) (n start at next left reach : ℕ) → start < n → Probing P n start at left reach → P at → IsNext n at next → (((j : ℕ) → j < n → P j) → ⊥) → left ≢ 0 → Probing P n start next (left - 1) reach
probing-more P n start at next left reach p s here follows some more = record {
  passed = passed-more P n start p at next s.passed here follows some;
  taken = omega (arith, s.taken, (passed-step P n start p at next s.passed here follows some).0, more);
}

-- a filled bucket, the key of which isn't the one that is sought
pub missed-by : {A : Type 0} (key : ℕ → Option A) (sought : A) (bs : List Bucket) (at : ℕ) (fits : Bool) → at < length bs → (get_or bs at (record { hash = 0; position = 0 })).position ≢ 4294967295
    → (key (get_or bs at (record { hash = 0; position = 0 })).position ≡ Some sought → fits ≡ true) → fits ≡ false → Missed key sought (get_or (cells bs) at None)
missed-by key sought bs at fits l real if_so not = record {
  filled = holds-filled bs at l real;
  differs = λ e was same. let y = if_so (ap key (holds-is bs at l e was).2 ∙ same) in cc;
}

-- after `reach` steps: no pair of the hash stands further on
pub absent-beyond : {A : Type 0} (key : ℕ → Option A) (sought : A) (hash : A → ℕ) (cs : List (Option Pair)) (at reach : ℕ) → IsRing cs → IsNear reach cs
    → Passed (λ j. Missed key sought (get_or cs j None)) (length cs) (hash sought % length cs) at → Missed key sought (get_or cs at None) → distance (length cs) (hash sought % length cs) at ≡ reach
    → ((p h : ℕ) → hash_at (pairs_of cs) p ≡ Some h → option_map hash (key p) ≡ Some h)
    → (p h : ℕ) → hash_at (pairs_of cs) p ≡ Some h → key p ≢ Some sought
absent-beyond key sought hash cs at reach r near passed here far keys p h there same =
    let w = lookup-cell cs p h there in
    let mine : hash sought ≡ h = let z = keys p h there in let y = ap (λ k. option_map hash k) same in cc in
    let in_home : hash sought % length cs < length cs = omega (arith, size_bounds (length cs) r.size) in
    let close : distance (length cs) (hash sought % length cs) w.at ≤ reach
    = subst (λ g. distance (length cs) (g % length cs) w.at ≤ reach) (sym mine) (near.near w.at (record { hash = h; position = p }) w.within w.is) in
    elim (dec_lt (distance (length cs) (hash sought % length cs) w.at) (distance (length cs) (hash sought % length cs) at)) [
      | yes d ↦ (passed.before w.at w.within d).differs (record { hash = h; position = p }) w.is same
      | no d ↦
          let e = same_place (length cs) (hash sought % length cs) in_home w.at at w.within passed.within (omega arith) in
          here.differs (record { hash = h; position = p }) (ap (λ y. get_or cs y None) (sym e) ∙ w.is) same
    ]

-- the pair of a bucket is there
pub bucket-there : (cs : List (Option Pair)) (i : ℕ) (e : Pair) → Apart (pairs_of cs) → i < length cs → get_or cs i None ≡ Some e → hash_at (pairs_of cs) e.position ≡ Some e.hash
bucket-there cs i e p l was = cell-lookup cs i e p l was

-- a table has a free bucket
pub table-free : (bs : List Bucket) (room reach : ℕ) → IsTable bs room reach → HasFree (cells bs)
table-free bs room reach t = free-cell (cells bs) (omega (arith, length-cells bs, t.load, size_bounds (length (cells bs)) t.ring.size))

pub hash-mine : {A : Type 0} (hash : A → ℕ) (o : Option A) (x : A) (h : ℕ) → option_map hash o ≡ Some h → o ≡ Some x → hash x ≡ h
hash-mine hash o x h e s = let y = ap (λ k. option_map hash k) s in cc

pub map-twice : {X A : Type 0} (f : X → A) (hash : A → ℕ) (o : Option X) (h : ℕ) → option_map (λ k. hash (f k)) o ≡ Some h → option_map hash (option_map f o) ≡ Some h
map-twice f hash None h e = cc
map-twice f hash (Some x) h e = e

pub absent-by : {A : Type 0} (key : ℕ → Option A) (sought : A) (hash : A → ℕ) (bs : List Bucket) (h start at : ℕ) → IsRing (cells bs) → get_or (cells bs) at None ≡ None
    → start ≡ h % length bs → h ≡ hash sought
    → Passed (λ j. Missed key sought (get_or (cells bs) j None)) (length bs) start at
    → ((p g : ℕ) → hash_at (pairs_of (cells bs)) p ≡ Some g → option_map hash (key p) ≡ Some g)
    → (p g : ℕ) → hash_at (pairs_of (cells bs)) p ≡ Some g → key p ≢ Some sought
absent-by key sought hash bs h start at r free home mine passed keys =
    absent-at-free key sought hash (cells bs) at r free
    (subst (λ n. Passed (λ j. Missed key sought (get_or (cells bs) j None)) n (hash sought % n) at) (sym (length-cells bs))
    (subst (λ x. Passed (λ j. Missed key sought (get_or (cells bs) j None)) (length bs) x at) (home ∙ ap (λ y. y % length bs) mine) passed)) keys

pub absent-by-beyond : {A : Type 0} (key : ℕ → Option A) (sought : A) (hash : A → ℕ) (bs : List Bucket) (h start at reach : ℕ) → IsRing (cells bs) → IsNear reach (cells bs)
    → start ≡ h % length bs → h ≡ hash sought
    → Passed (λ j. Missed key sought (get_or (cells bs) j None)) (length bs) start at → Missed key sought (get_or (cells bs) at None) → distance (length bs) start at ≡ reach
    → ((p g : ℕ) → hash_at (pairs_of (cells bs)) p ≡ Some g → option_map hash (key p) ≡ Some g)
    → (p g : ℕ) → hash_at (pairs_of (cells bs)) p ≡ Some g → key p ≢ Some sought
absent-by-beyond key sought hash bs h start at reach r near home mine passed here far keys =
    let begins = home ∙ ap (λ y. y % length bs) mine in
    absent-beyond key sought hash (cells bs) at reach r near
    (subst (λ n. Passed (λ j. Missed key sought (get_or (cells bs) j None)) n (hash sought % n) at) (sym (length-cells bs))
    (subst (λ x. Passed (λ j. Missed key sought (get_or (cells bs) j None)) (length bs) x at) begins passed)) here
    (subst (λ n. distance n (hash sought % n) at ≡ reach) (sym (length-cells bs)) (subst (λ x. distance (length bs) x at ≡ reach) begins far)) keys
