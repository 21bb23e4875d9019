-- Slots at the start.
use Rattle.std.proofs.Common.{◌≡◌, ℕ, zero, suc, List, [], ◌∷◌, ◌++◌, length, refl, sym, ap, subst}
use mathlib.Core.Option.{some, some-injective, some-ne-none}
use lib.ListN.{get_elem?}
use Rattle.cow_crew.specs.declared.place.Place.{Place}
use Rattle.cow_crew.specs.Rule.{IsWaiting}
use Rattle.cow_crew.specs.Places.{AllWait}

module _ {J X : Type 0} where
  pub one_more : (js : List J) (ys : List (Place J X)) (j : J) (y : Place J X) → AllWait js ys → IsWaiting j y → AllWait (js ++ j ∷ []) (ys ++ y ∷ [])
  one_more [] [] j y h w = (w, tt)
  one_more [] (z ∷ ys) j y h w = absurd h
  one_more (i ∷ js) [] j y h w = absurd h
  one_more (i ∷ js) (z ∷ ys) j y h w = (h.0, one_more js ys j y h.1 w)

  pub length_waits : (js : List J) (ys : List (Place J X)) → AllWait js ys → length ys ≡ length js
  length_waits [] [] h = refl
  length_waits [] (z ∷ ys) h = absurd h
  length_waits (i ∷ js) [] h = absurd h
  length_waits (i ∷ js) (z ∷ ys) h = ap suc (length_waits js ys h.1)

  pub waits_at : (js : List J) (ys : List (Place J X)) → AllWait js ys → (i : ℕ) (j : J) → get_elem? js i ≡ some j → (y : Place J X) × (get_elem? ys i ≡ some y) × IsWaiting j y
  waits_at [] ys h i j e = absurd (some-ne-none j (sym e))
  waits_at (k ∷ js) [] h i j e = absurd h
  waits_at (k ∷ js) (z ∷ ys) h zero j e = let W : J → Type 0 = λ x. IsWaiting x z in (z, refl, subst W (some-injective k j e) h.0)
  waits_at (k ∷ js) (z ∷ ys) h (suc i) j e = waits_at js ys h.1 i j e
