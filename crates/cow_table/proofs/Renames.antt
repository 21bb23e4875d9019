-- Pairs get other positions, and stay where they are.
use Rattle.std.proofs.Common.{◌≡◌, ℕ, ◌+◌, ◌%◌, ◌<◌, ◌≤◌, cond, eqb, Bool, true, false, List, length, get_or, set, Option, Some, None, refl, sym, ap, subst, ◌∙◌, arith, inl, inr}
use Rattle.std.proofs.lemmas.List.{length-set, get_or-set_same, get_or-set_other, set-set}
use Rattle.std.proofs.lemmas.Bool.{cases_eq}
use Rattle.cow_table.specs.Pairs.{Pair, hash_at, Renames}
use Rattle.cow_table.specs.Ring.{cells, pairs_of, limit, Apart, IsRing, IsNear, IsTable, distance}
use Rattle.cow_table.specs.declared.ring.Bucket.{Bucket}
use Rattle.cow_table.proofs.Cells.{lookup-fill, count-fill, apart-fill, lookup-empty, count-empty, apart-empty}
use Rattle.cow_table.proofs.Places.{Reached, Nearby, Some-same}
use Rattle.cow_table.proofs.Probes.{length-cells, cells-set, seen-filled}

-- f and g have pairs of the same hashes at the same places
pub Reached-like : (n : ℕ) (f g : ℕ → Option Pair) → ((i : ℕ) (e : Pair) → g i ≡ Some e → (x : Pair) × (f i ≡ Some x) × (x.hash ≡ e.hash)) → ((i : ℕ) → g i ≡ None → f i ≡ None) → Reached n f → Reached n g
Reached-like n f g like empty r i j e p q was d free =
    let w = like i e was in
    r i j w.0 p q w.1 (subst (λ h. distance n (h % n) j < distance n (h % n) i) (sym w.2) d) (empty j free)

pub Nearby-like : (reach n : ℕ) (f g : ℕ → Option Pair) → ((i : ℕ) (e : Pair) → g i ≡ Some e → (x : Pair) × (f i ≡ Some x) × (x.hash ≡ e.hash)) → Nearby reach n f → Nearby reach n g
Nearby-like reach n f g like r i e p was = let w = like i e was in subst (λ h. distance n (h % n) i ≤ reach) w.2 (r i w.0 p w.1)

module _ (cs : List (Option Pair)) (at h from to : ℕ) (l : at < length cs) (was : get_or cs at None ≡ Some (record { hash = h; position = from })) (distinct : Apart (pairs_of cs)) (absent : hash_at (pairs_of cs) to ≡ None) where
  l_between : at < length (set cs at None)
  l_between = omega (arith, length-set cs at None)

  free_between : get_or (set cs at None) at None ≡ None
  free_between = get_or-set_same cs at None None l

  keep_none : (t : Bool) (r : Option ℕ) → r ≡ None → cond t None r ≡ None
  keep_none true r e = refl
  keep_none false r e = e

  absent_between : hash_at (pairs_of (set cs at None)) to ≡ None
  absent_between = lookup-empty cs at (record { hash = h; position = from }) to distinct l was ∙ keep_none (eqb from to) (hash_at (pairs_of cs) to) absent

  pub renames-cell : Renames h from to (pairs_of cs) (pairs_of (set cs at (Some (record { hash = h; position = to }))))
  renames-cell = subst (λ (x : List (Option Pair)). Renames h from to (pairs_of cs) (pairs_of x)) (set-set cs at None (Some (record { hash = h; position = to })))
      (record {
        lookup = λ q. lookup-fill (set cs at None) at (record { hash = h; position = to }) q l_between free_between absent_between ∙ ap (λ r. cond (eqb to q) (Some h) r) (lookup-empty cs at (record { hash = h; position = from }) q distinct l was);
        count = omega (arith, count-fill (set cs at None) at (record { hash = h; position = to }) l_between free_between, count-empty cs at (record { hash = h; position = from }) l was);
      })

  apart-rename : Apart (pairs_of (set cs at (Some (record { hash = h; position = to }))))
  apart-rename = subst (λ (x : List (Option Pair)). Apart (pairs_of x)) (set-set cs at None (Some (record { hash = h; position = to })))
      (apart-fill (set cs at None) at (record { hash = h; position = to }) l_between free_between absent_between (apart-empty cs at (record { hash = h; position = from }) distinct l was))

  like : (i : ℕ) (e : Pair) → get_or (set cs at (Some (record { hash = h; position = to }))) i None ≡ Some e → (x : Pair) × (get_or cs i None ≡ Some x) × (x.hash ≡ e.hash)
  like i e is = elim (cases_eq i at) [
    | inl w ↦
        let a : Some e ≡ Some (record { hash = h; position = to }) = sym is ∙ ap (λ k. get_or (set cs at (Some (record { hash = h; position = to }))) k None) w ∙ get_or-set_same cs at (Some (record { hash = h; position = to })) None l in
        (record { hash = h; position = from }, ap (λ k. get_or cs k None) w ∙ was, sym (ap (λ (y : Pair). y.hash) (Some-same e (record { hash = h; position = to }) a)))
    | inr w ↦ (e, sym (get_or-set_other cs at i (Some (record { hash = h; position = to })) None w) ∙ is, refl)
  ]

  free : (i : ℕ) → get_or (set cs at (Some (record { hash = h; position = to }))) i None ≡ None → get_or cs i None ≡ None
  free i is = elim (cases_eq i at) [
    | inl w ↦ absurd (let a = ap (λ k. get_or (set cs at (Some (record { hash = h; position = to }))) k None) w in let b = get_or-set_same cs at (Some (record { hash = h; position = to })) None l in cc)
    | inr w ↦ sym (get_or-set_other cs at i (Some (record { hash = h; position = to })) None w) ∙ is
  ]

  pub ring-rename : IsRing cs → IsRing (set cs at (Some (record { hash = h; position = to })))
  ring-rename r = record {
    size = rw (length-set cs at (Some (record { hash = h; position = to }))) r.size;
    placed = record {
      reached = subst (λ n. Reached n (λ j. get_or (set cs at (Some (record { hash = h; position = to }))) j None)) (sym (length-set cs at (Some (record { hash = h; position = to }))))
          (Reached-like (length cs) (λ j. get_or cs j None) (λ j. get_or (set cs at (Some (record { hash = h; position = to }))) j None) like free r.placed.reached);
    };
    apart = apart-rename;
  }

  pub near-rename : (reach : ℕ) → IsNear reach cs → IsNear reach (set cs at (Some (record { hash = h; position = to })))
  near-rename reach r = record {
    near = subst (λ n. Nearby reach n (λ j. get_or (set cs at (Some (record { hash = h; position = to }))) j None)) (sym (length-set cs at (Some (record { hash = h; position = to }))))
        (Nearby-like reach (length cs) (λ j. get_or cs j None) (λ j. get_or (set cs at (Some (record { hash = h; position = to }))) j None) like r.near);
  }

pub table-rename : (bs : List Bucket) (room reach at h from to : ℕ) → IsTable bs room reach → at < length bs → get_or (cells bs) at None ≡ Some (record { hash = h; position = from }) → hash_at (pairs_of (cells bs)) to ≡ None → to < 4294967295
    → IsTable (set bs at (record { hash = h; position = to })) room reach × Renames h from to (pairs_of (cells bs)) (pairs_of (cells (set bs at (record { hash = h; position = to }))))
table-rename bs room reach at h from to t l was absent small =
    let inside : at < length (cells bs) = omega (arith, length-cells bs) in
    let same : cells (set bs at (record { hash = h; position = to })) ≡ set (cells bs) at (Some (record { hash = h; position = to }))
    = cells-set bs at (record { hash = h; position = to }) ∙ ap (λ (x : Option Pair). set (cells bs) at x) (seen-filled (record { hash = h; position = to }) (λ e. absurd (omega arith))) in
    let names = renames-cell (cells bs) at h from to inside was t.ring.apart absent in
    let all = subst (λ (x : List (Option Pair)). Renames h from to (pairs_of (cells bs)) (pairs_of x)) (sym same) names in
    let long = length-set bs at (record { hash = h; position = to }) in (
      record {
        ring = subst IsRing (sym same) (ring-rename (cells bs) at h from to inside was t.ring.apart absent t.ring);
        load = subst (λ n. length (pairs_of (cells (set bs at (record { hash = h; position = to })))) + room ≡ limit n) (sym long) (omega (arith, all.count, t.load));
        near = subst (IsNear reach) (sym same) (near-rename (cells bs) at h from to inside was t.ring.apart absent reach t.near);
      },
      all,
    )
