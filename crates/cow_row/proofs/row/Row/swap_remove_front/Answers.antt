use Rattle.std.proofs.Common.{◌≡◌, ℕ, ◌-◌, suc, List, ◌∷◌, set, slice_get, Some, refl, arith, IsPermutation}
use Rattle.std.proofs.lemmas.Option.{slice_get_within, get_or_from_slice_get}
use Rattle.std.proofs.lemmas.List.Sorted.{IsPermutation-swap}
use Rattle.cow_row.proofs.row.Row.swap_remove_front.Goals as goal

-- the first item in the place of one that is taken out
first-instead : {X : Type 0} (y : X) (ys : List X) (j : ℕ) (x : X) → slice_get ys j ≡ Some x → IsPermutation (y ∷ ys) (x ∷ set ys j y)
first-instead y ys j x e = IsPermutation-swap (y ∷ ys) (x ∷ set ys j y) 0 (suc j) (omega arith) (omega (arith, slice_get_within ys j x e)) (rw (get_or_from_slice_get ys j x y e) refl)

pub returns-clause-others : goal.returns-clause-others
returns-clause-others g c =
    rw (c.in-Some.ensures.value, c.replace.ensures.row)
    (first-instead c.in-Some.first c.pop_front.new.self.items (c.args.i - 1) c.replace.result c.replace.ensures.value)
