-- A slice of a value without units has none.
use Rattle.std.proofs.Common.{◌≡◌, ℕ, ◌-◌, ℤ, Bool, List, take, drop, length, count_by, cond, Option, Some, None, ap, subst, arith}
use Rattle.std.proofs.lemmas.List.Sums.{sum_by-take-drop}
use Rattle.cow_model.specs.Answers.{value_after}
use Rattle.cow_model.specs.Operation.{slice, silent, at_place, stretch}
use Rattle.cow_model.specs.Units.{units_of}
use Rattle.cow_model.specs.declared.plain.Literal.{Literal}
use Rattle.cow_model.specs.declared.value.Plain.{Plain}
use Rattle.cow_model.specs.declared.value.Plain.TheVariants.{Array, Slice, Deque, Set, Dict, OSet, ODict, Heap, TSet, TDict}

module _ (p : Literal → Bool) where
  -- a stretch of a list without units
  cut-bare : (items : List Literal) (r : Option (ℕ × ℕ)) (w : Plain) → at_place r (λ x. silent (Slice x.0 (take (x.1 - x.0) (drop x.0 items)))) ≡ silent w → count_by p items ≡ 0 → units_of p w ≡ 0
  cut-bare items None w e none = cc
  cut-bare items (Some (a, b)) w e none =
      let is : Slice a (take (b - a) (drop a items)) ≡ w = ap (λ answer. value_after w answer) e in
      let whole = sum_by-take-drop (λ x. cond (p x) 1 0) items a in
      let rest = sum_by-take-drop (λ x. cond (p x) 1 0) (drop a items) (b - a) in
      subst (λ v. units_of p v ≡ 0) is (omega (arith, whole, rest, none))

  -- a slice of any value
  pub slice-bare : (i j : ℤ) (v w : Plain) → slice i j v ≡ silent w → units_of p v ≡ 0 → units_of p w ≡ 0
  slice-bare i j (Array items) w e none = cut-bare items (stretch (length items) i j) w e none
  slice-bare i j (Slice start items) w e none = cc
  slice-bare i j (Deque items) w e none = cc
  slice-bare i j (Set items) w e none = cc
  slice-bare i j (Dict pairs) w e none = cc
  slice-bare i j (OSet items) w e none = cc
  slice-bare i j (ODict pairs) w e none = cc
  slice-bare i j (Heap items) w e none = cc
  slice-bare i j (TSet items) w e none = cc
  slice-bare i j (TDict pairs) w e none = cc
