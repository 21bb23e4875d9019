-- Lists of one pair at most.
use Rattle.std.proofs.Common.{◌≡◌, ℕ, ◌+◌, ◌<◌, List, [], ◌∷◌, ◌++◌, length, refl, ap, ◌∙◌, arith}
use Rattle.std.proofs.lemmas.List.{length-append}

pub one_of : {X : Type 0} (xs ys : List X) (x : X) → xs ≡ ys ++ x ∷ [] → length xs < 2 → xs ≡ x ∷ []
one_of xs [] x e h = e
one_of xs (y ∷ ys) x e h = absurd (let q = ap length e in let l = length-append ys (x ∷ []) in omega (arith, q, l, h))

pub none_of : {X : Type 0} (xs : List X) → length xs ≡ 0 → xs ≡ []
none_of [] h = refl
none_of (x ∷ xs) h = absurd (omega arith)
