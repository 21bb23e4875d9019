-- How large the values of all names are after a statement that is no fork, and where their last elements stand.
use Rattle.std.proofs.Common.{◌≡◌, ℕ, suc, ◌+◌, ◌-◌, ◌^◌, ◌≤◌, ◌&&◌, max, ℤ, pos, negsuc, Bool, true, false, List, length, take, drop, Some, None, refl, ap, subst, arith}
use Rattle.std.specs.Prelude.{nat_le, if◌then◌else◌}
use Rattle.std.proofs.lemmas.Bool.{leb-true}
use Rattle.std.proofs.lemmas.List.{length-take, length-drop}
use Rattle.cow_model.specs.declared.outcome.Environment.{Environment}
use Rattle.cow_model.specs.declared.plain.Literal.{Literal}
use Rattle.cow_model.specs.declared.shape.Shape.{Shape}
use Rattle.cow_model.specs.declared.statement.Kind.{Kind}
use Rattle.cow_model.specs.declared.statement.Kind.TheVariants as kind
use Rattle.cow_model.specs.declared.value.Plain.{Plain}
use Rattle.cow_model.specs.declared.value.Plain.TheVariants.{Array, Slice, Deque, Set, Dict, OSet, ODict, Heap, TSet, TDict}
use Rattle.cow_model.specs.Answers.{value_after}
use Rattle.cow_model.specs.Operation.{slice, silent, made, at_place}
use Rattle.cow_model.specs.Plain.{count, stop, max_count}
use Rattle.cow_model.specs.Sharing.{Layer, literals}
use Rattle.cow_model.specs.Step.{step}
use Rattle.cow_model.proofs.Counts.{turn-small, turn_by-small, made-small, slice-small}
use Rattle.cow_model.proofs.Steps.{Values, Leads, step-leaves}
use Rattle.cow_model.proofs.Stops.{turn-near, turn_by-near}

-- at most 65,536 elements
abbrev pub Small : Plain → Type 0
Small v = count v ≤ max_count

-- the last element stands at an index below 2 ^ 31 even if n more come before it
abbrev pub Near : ℕ → Plain → Type 0
Near n v = stop v + n ≤ 2 ^ 31

-- ---- new values

-- a new value begins at 0
made-stop : (k : Kind) (atoms : List Literal) → stop (made k atoms) ≡ count (made k atoms)
made-stop kind.Array atoms = refl
made-stop kind.Deque atoms = refl
made-stop kind.Set atoms = refl
made-stop kind.Dict atoms = refl
made-stop kind.OSet atoms = refl
made-stop kind.ODict atoms = refl
made-stop kind.Heap atoms = refl
made-stop kind.TSet atoms = refl
made-stop kind.TDict atoms = refl

-- a stretch ends within its list
cut-stop : (items : List Literal) (i j : ℕ) (w : Plain) (front back : Bool) → (front ≡ true → i ≤ j) → (back ≡ true → j ≤ length items)
    → at_place {A = ℕ × ℕ} (if front && back then Some (i, j) else None) (λ r. silent (Slice r.0 (take (r.1 - r.0) (drop r.0 items)))) ≡ silent w
    → stop w ≤ length items
cut-stop items i j w true true low high e =
    let is : Slice i (take (j - i) (drop i items)) ≡ w = ap (λ answer. value_after w answer) e in
    let first = length-take (j - i) (drop i items) in
    let rest = length-drop i items in
    subst (λ v. stop v ≤ length items) is (omega (arith, first, rest, low refl, high refl))
cut-stop items i j w true false low high e = cc
cut-stop items i j w false back low high e = cc

-- a slice ends no further than what it is cut from
pub slice-stop : (i j : ℤ) (v w : Plain) → slice i j v ≡ silent w → stop w ≤ stop v
slice-stop (pos i) (pos j) (Array items) w e = cut-stop items i j w (nat_le i j) (nat_le j (length items)) (leb-true i j) (leb-true j (length items)) e
slice-stop (pos i) (negsuc j) (Array items) w e = cc
slice-stop (negsuc i) j (Array items) w e = cc
slice-stop i j (Slice start items) w e = cc
slice-stop i j (Deque items) w e = cc
slice-stop i j (Set items) w e = cc
slice-stop i j (Dict pairs) w e = cc
slice-stop i j (OSet items) w e = cc
slice-stop i j (ODict pairs) w e = cc
slice-stop i j (Heap items) w e = cc
slice-stop i j (TSet items) w e = cc
slice-stop i j (TDict pairs) w e = cc

-- ---- all values

-- one index further, or below 65,536
nearer : (n a b : ℕ) → max_count + n ≤ 2 ^ 31 → b + suc n ≤ 2 ^ 31 → a ≤ max (b + 1) max_count → a + n ≤ 2 ^ 31
nearer n a b room near h = search (arith, room, near, h)

made-near : (n : ℕ) (k : Kind) (atoms : List Literal) → max_count + n ≤ 2 ^ 31 → length atoms ≤ max_count → Near n (made k atoms)
made-near n k atoms room few = omega (arith, made-stop k atoms, made-small k atoms, room, few)

slice-near : (n : ℕ) (i j : ℤ) (v w : Plain) → slice i j v ≡ silent w → Near (suc n) v → Near n w
slice-near n i j v w e near = omega (arith, slice-stop i j v w e, near)

-- what is small stays small
small-leads : Leads Small Small
small-leads = record {
  weaken = λ v small. small;
  turn = turn-small;
  turn_by = λ s v w small also. turn_by-small s v w small;
  made = λ k atoms few. omega (arith, made-small k atoms, few);
  slice = slice-small;
}

-- what is near is one index further at most
near-leads : (n : ℕ) → max_count + n ≤ 2 ^ 31 → Leads (λ v. Small v × Near (suc n) v) (Near n)
near-leads n room = record {
  weaken = λ v q. omega (arith, q.1);
  turn = λ s v q. nearer n _ (stop v) room q.1 (turn-near s v q.0);
  turn_by = λ s v w q r. nearer n _ (stop v) room q.1 (turn_by-near s v w q.0);
  made = λ k atoms few. made-near n k atoms room few;
  slice = λ i j v w e q. slice-near n i j v w e q.1;
}

-- after a statement that is no fork each value has at most 65,536 elements, where each has before it
pub step-small : (env : Environment) (shapes : List Shape) (s : Layer)
    → literals s ≤ max_count → Values Small env.names → Values Small (step env shapes s).env.names
step-small = step-leaves Small Small small-leads

-- the last element of each value stands at most one index further, or below 65,536
pub step-near : (n : ℕ) → max_count + n ≤ 2 ^ 31 → (env : Environment) (shapes : List Shape) (s : Layer)
    → literals s ≤ max_count → Values Small env.names → Values (Near (suc n)) env.names → Values (Near n) (step env shapes s).env.names
step-near n room env shapes s few small near =
    step-leaves (λ v. Small v × Near (suc n) v) (Near n) (near-leads n room) env shapes s few (λ k d lt. (small k d lt, near k d lt))
