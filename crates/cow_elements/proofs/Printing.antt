-- How the printed forms of lists and pairs are made up.
use Rattle.std.proofs.Common.{◌≡◌, ℕ, ◌+◌, ◌≤◌, List, [], ◌∷◌, ◌++◌, length, map, drop, Some, slice_get, get_or, codes, refl, sym, ap, ◌∙◌, arith}
use Rattle.std.proofs.lemmas.Option.{slice_get_within, get_or_from_slice_get}
use Rattle.std.proofs.lemmas.List.{drop_more}
use Rattle.std.proofs.lemmas.Grind.{common_steps}
use Rattle.std.specs.List.{flat_map}
use Rattle.cow_model.specs.Printed.{behind_comma, pair_text, pairs_text}
use Rattle.cow_model.specs.declared.value.Pair.{Pair}

-- a list from an element on
pub drop-next : {A : Type 0} (xs : List A) (i : ℕ) (x : A) → slice_get xs i ≡ Some x → drop i xs ≡ x ∷ drop (i + 1) xs
drop-next xs i x e = rw (drop_more xs i x (slice_get_within xs i x e), get_or_from_slice_get xs i x x e) refl

-- the texts of the elements to come, once one more is printed
pub printed-next : {A : Type 0} (f : A → List ℕ) (xs : List A) (i : ℕ) (x : A) (text more whole : List ℕ) →
    slice_get xs i ≡ Some x → text ++ flat_map behind_comma (map f (drop i xs)) ≡ whole → more ≡ text ++ behind_comma (f x) →
    more ++ flat_map behind_comma (map f (drop (i + 1) xs)) ≡ whole
printed-next f xs i x text more whole e before grown =
    let w = rw (drop-next xs i x e) at before in
    rw grown (grind (arith, common_steps, w))

fused : {A : Type 0} (f : A → Pair) (xs : List A) → map pair_text (map f xs) ≡ map (λ x. pair_text (f x)) xs
fused f [] = refl
fused f (x ∷ xs) = ap (λ l. pair_text (f x) ∷ l) (fused f xs)

-- pairs of which there is a first one x
pub shows-pairs : {A : Type 0} (f : A → Pair) (xs : List A) (x : A) → 1 ≤ length xs → x ≡ get_or xs 0 x →
    pairs_text (map f xs) ≡ codes "[" ++ (pair_text (f x) ++ flat_map behind_comma (map (λ y. pair_text (f y)) (drop 1 xs))) ++ codes "]"
shows-pairs f [] x n e = absurd (omega (arith, n))
shows-pairs f (y ∷ ys) x n e =
    ap (λ l. codes "[" ++ (pair_text (f y) ++ flat_map behind_comma l) ++ codes "]") (fused f ys)
    ∙ ap (λ z. codes "[" ++ (pair_text (f z) ++ flat_map behind_comma (map (λ w. pair_text (f w)) ys)) ++ codes "]") (sym e)
