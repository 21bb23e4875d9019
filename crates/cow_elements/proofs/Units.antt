-- The units of the elements of a list.
use Rattle.std.proofs.Common.{◌≡◌, ℕ, ◌≤◌, Bool, List, Some, slice_get, cond, count_by, arith}
use Rattle.std.proofs.lemmas.List.Sums.{sum_by_more_le}
use Rattle.std.proofs.lemmas.Option.{slice_get_within, get_or_from_slice_get}
use Rattle.cow_model.specs.Purse.{unit_if}

-- an element's unit is one of the list's
pub unit-of : {A : Type 0} (p : A → Bool) (xs : List A) (i : ℕ) (x : A) → slice_get xs i ≡ Some x → unit_if (p x) ≤ count_by p xs
unit-of p xs i x e =
    let one = sum_by_more_le (λ y. cond (p y) 1 0) xs i x (slice_get_within xs i x e) in
    omega (arith, rw (get_or_from_slice_get xs i x x e) at one)
