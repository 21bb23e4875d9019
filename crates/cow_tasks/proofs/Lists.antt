-- Lists as loops go over them.
use Rattle.std.proofs.Common.{◌≡◌, ℕ, ◌+◌, ◌<◌, ◌≤◌, List, [], ◌∷◌, length, map, take, drop, drop_of_length-le, take-append-drop, ◌++◌, Some, refl, get_or, ap, sym, ◌∙◌, subst}
use Rattle.std.specs.Prelude.{All}
use Rattle.std.proofs.lemmas.List.{at_drop_more, map-id}
use Rattle.std.proofs.lemmas.List.Elements.{All-get_or, All-pop}

module _ {A : Type 0} (xs : List A) (i : ℕ) (x : A) (within : i < length xs) (is : x ≡ get_or xs i x) where
  -- what is left is the next item, and what is left behind it
  pub at-next : {X : Type 0} (f : List A → X) → f (x ∷ drop (i + 1) xs) ≡ f (drop i xs)
  at-next f = ap (λ y. f (y ∷ drop (i + 1) xs)) is ∙ sym (at_drop_more f xs i x within)

  -- what holds of all holds of this one
  pub of-this : (P : A → Type 0) → All P xs → P x
  of-this P all = subst P (sym is) (All-get_or P xs i x within all)

-- behind the last item nothing is left
pub nothing-left : {A : Type 0} (xs : List A) (i : ℕ) → length xs ≤ i → drop i xs ≡ []
nothing-left xs i = drop_of_length-le xs

-- what holds of a list and one item more holds of the list and of the item
pub All-unpush : {A : Type 0} (P : A → Type 0) (xs : List A) (x : A) → All P (xs ++ x ∷ []) → All P xs × P x
All-unpush P xs x all = All-pop P (xs ++ x ∷ []) xs (Some x) refl all

-- a list from its items so far and the next one
pub parted : {A : Type 0} (xs ys : List A) (x : A) → map (λ y. y) ys ≡ take (length ys) xs → (length ys < length xs) × (x ≡ get_or xs (length ys) x) → xs ≡ ys ++ x ∷ drop (length ys + 1) xs
parted xs ys x so-far here =
    sym (take-append-drop (length ys) xs)
    ∙ (ap (λ l. l ++ drop (length ys) xs) (sym so-far ∙ map-id ys)
    ∙ ap (λ l. ys ++ l) (sym (at-next xs (length ys) x here.0 here.1 (λ l. l))))
