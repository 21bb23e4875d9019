-- A Vec that was lent as a slice.
use Rattle.std.proofs.Common.{◌≡◌, ℕ, ◌++◌, List, [], ◌∷◌, length, map, take, drop, refl, ap, sym, ◌∙◌}
use Rattle.std.proofs.lemmas.List.{length-map}

-- the front of a list that goes on
front : {A : Type 0} (xs ys : List A) → take (length xs) (xs ++ ys) ≡ xs
front [] ys = refl
front (x ∷ xs) ys = rw (front xs ys) refl

-- lists with one image have one length
pub same-length : {A B : Type 0} (f : A → B) (xs ys : List A) → map f xs ≡ map f ys → length xs ≡ length ys
same-length f xs ys same = sym (length-map xs f) ∙ (ap length same ∙ length-map ys f)

-- what comes back of it
pub come-back : {A : Type 0} (new old : List A) (n : ℕ) → n ≡ length new → take n (new ++ drop (length new) old) ≡ new
come-back new old n is = ap (λ k. take k (new ++ drop (length new) old)) is ∙ front new (drop (length new) old)
