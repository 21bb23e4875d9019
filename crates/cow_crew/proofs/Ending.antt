-- What the slots at the end say of the results.
use Rattle.std.proofs.Common.{◌≡◌, ℕ, zero, suc, List, [], ◌∷◌, length, Some, slice_get, sym, ap, subst, ◌∙◌, arith}
use Rattle.std.proofs.lemmas.Option.{same_Some, none-some}
use mathlib.Core.Option.{some, some-injective}
use lib.ListN.{get_elem?}
use Rattle.cow_crew.specs.Order.{InOrder}
use Rattle.cow_crew.specs.declared.place.Held.{Held}
use Rattle.cow_crew.specs.declared.place.Held.TheVariants.{Waiting, Taken, Done}
use Rattle.cow_crew.specs.declared.place.Place.{Place}
use Rattle.cow_crew.specs.Rule.{IsDone}
use Rattle.cow_crew.specs.Places.{AllDone, AreResults}
use Rattle.cow_crew.proofs.Steps.{some_at, some_within}

from_slice : {A : Type 0} (l : List A) (i : ℕ) (a : A) → slice_get l i ≡ Some a → get_elem? l i ≡ some a
from_slice [] i a e = absurd (none-some a e)
from_slice (x ∷ xs) zero a e = ap some (same_Some x a e)
from_slice (x ∷ xs) (suc i) a e = from_slice xs i a e

result_or : {J X : Type 0} → Held J X → X → X
result_or (Waiting j) d = d
result_or Taken d = d
result_or (Done x) d = x

same_result : {J X : Type 0} (h : Held J X) (x y : X) → h ≡ Done x → h ≡ Done y → x ≡ y
unfolding result_or
same_result h x y a b = sym (ap (λ k. result_or k x) a) ∙ ap (λ k. result_or k x) b

module _ {J X : Type 0} (R : J → X → Type 0) (jobs : List J) (xs : List (Place J X)) (long : length xs ≡ length jobs)
    (each_done : (i : ℕ) (j : J) → get_elem? jobs i ≡ some j → (y : Place J X) × (get_elem? xs i ≡ some y) × IsDone R j y) where
  pub all_done : AllDone xs
  all_done i y at =
      let low = some_within xs i y at in
      let j = some_at jobs i (omega (arith, low, long)) in
      let d = each_done i j.0 j.1 in
      let same : d.0 ≡ y = some-injective d.0 y (sym d.1 ∙ at) in
      (d.2.1.0, ap (λ (z : Place J X). z.held) (sym same) ∙ d.2.1.1)

  pub outs_in_order : (outs : List X) → AreResults xs outs → InOrder R jobs outs
  outs_in_order outs o = record {
    len = o.len ∙ long;
    each = λ i j x at out.
        let d = each_done i j (from_slice jobs i j at) in
        let held = o.each i d.0 x d.1 (from_slice outs i x out) in
        let same : d.2.1.0 ≡ x = same_result d.0.held d.2.1.0 x d.2.1.1 held in
        subst (R j) same d.2.1.2;
  }
