-- Items that are sorted by their plain values are the ascending list.
use Rattle.std.proofs.Common.{◌≡◌, suc, ◌+◌, map, List, [], ◌∷◌, Bool, get_or, IsPermutation, false, refl, sym, ap, ◌∙◌, subst, arith}
use Rattle.std.proofs.lemmas.List.Sorted.{IsPermutation-map, ranks_by}
use Rattle.std.specs.Cmp.{IsStrictWeakOrder}
use Rattle.std.specs.List.Sorted.{IsSortedBy}
use Rattle.cow_model.proofs.LiteralOrder.{literal_cmp_total}
use Rattle.cow_model.specs.Members.{ascending, in_order}
use Rattle.cow_model.specs.Order.{below}
use Rattle.cow_model.specs.declared.plain.Literal.{Literal}
use Rattle.cow_model.proofs.Ascending.{ahead, ascending_cons, ascending_permutes}

module _ {T : Type 0} (plain : T → Literal) where
  abbrev pub before : T → T → Bool
  before a b = below (plain a) (plain b)

  sorted-tail : (x : T) (xs : List T) → IsSortedBy before (x ∷ xs) → IsSortedBy before xs
  sorted-tail x xs up k d low l =
      let e : suc k + 1 ≡ suc (k + 1) = omega arith in
      subst (λ n. below (plain (get_or (x ∷ xs) n d)) (plain (get_or xs k d)) ≡ false) e (up (suc k) d (omega arith) (omega (arith, l)))

  sorted-is : (xs : List T) → IsSortedBy before xs → ascending (map plain xs) ≡ map plain xs
  sorted-is [] up = refl
  sorted-is (x ∷ []) up = refl
  sorted-is (x ∷ y ∷ ys) up = ascending_cons (plain x) (map plain (y ∷ ys)) ∙ ap (in_order (plain x)) (sorted-is (y ∷ ys) (sorted-tail x (y ∷ ys) up)) ∙ ahead (plain x) (plain y) (map plain ys) (up 0 x (omega arith) (omega arith))

  pub sorted-ascends : (xs ys : List T) → IsPermutation xs ys → IsSortedBy before ys → map plain ys ≡ ascending (map plain xs)
  sorted-ascends xs ys h up = sym (sorted-is ys up) ∙ ascending_permutes (map plain xs) (map plain ys) (IsPermutation-map plain xs ys h)

-- R is the type of references to items, which `now` reads
module _ {R T : Type 0} (now : R → T) (plain : T → Literal) where
  abbrev pub shown : R → Literal
  shown r = plain (now r)

  pub shown-ranks : IsStrictWeakOrder (before shown)
  shown-ranks = ranks_by literal_cmp_total shown

  shown-map : (rs : List R) → map shown rs ≡ map plain (map now rs)
  shown-map [] = refl
  shown-map (r ∷ rs) = ap (λ l. shown r ∷ l) (shown-map rs)

  pub shown-ascends : (rs ss : List R) (xs : List T) → map now rs ≡ xs → IsPermutation rs ss → IsSortedBy (before shown) ss → map shown ss ≡ ascending (map plain xs)
  shown-ascends rs ss xs e h up = sorted-ascends shown rs ss h up ∙ ap ascending (shown-map rs ∙ ap (map plain) e)
