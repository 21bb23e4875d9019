-- A seat that carries one slot.
use Rattle.std.proofs.Common.{◌≡◌, ℕ, zero, suc, ◌⊎◌, inl, inr, List, [], ◌∷◌, ◌++◌, length, refl, sym, ap, ◌∙◌}
use mathlib.Core.Option.{some, some-injective, some-ne-none}
use lib.ListN.{get_elem?}
use Rattle.cow_crew.specs.declared.place.Held.TheVariants.{Done}
use Rattle.atomic_table.specs.Table.{Me, rest}
use Rattle.cow_crew.specs.declared.place.Place.{Place}
use Rattle.cow_crew.specs.declared.rule.View.{View}
use Rattle.cow_crew.specs.Places.{CarriesName}

first_or : {A : Type 0} → List (ℕ × A) → A → A
first_or [] d = d
first_or (x ∷ xs) d = x.1

pub one_slot : {A : Type 0} (i k : ℕ) (y z : A) (l m : List (ℕ × A)) → (i, y) ∷ l ≡ (k, z) ∷ m → y ≡ z
unfolding first_or
one_slot i k y z l m e = ap (λ t. first_or t y) e

pub alone : {A : Type 0} (i : ℕ) (y : A) (l : List (ℕ × A)) → l ≡ (i, y) ∷ [] → l ≡ (i, y) ∷ rest l
alone i y l e = e ∙ ap (λ t. (i, y) ∷ t) (sym (ap rest e))

module _ {J X : Type 0} where
  pub one_name : (m : Me (Place J X) (View J)) (i : ℕ) (j k : J) → CarriesName m i j → CarriesName m i k → j ≡ k
  one_name m i j k a b = sym a.2 ∙ ap (λ (y : Place J X). y.job.value) (one_slot i i a.0 b.0 [] [] (sym a.1 ∙ b.1)) ∙ b.2

at_end : {A : Type 0} (l : List A) (a b : A) (k : ℕ) → get_elem? (l ++ a ∷ []) k ≡ some b → (get_elem? l k ≡ some b) ⊎ ((k ≡ length l) × (a ≡ b))
at_end [] a b zero e = inr (refl, some-injective a b e)
at_end [] a b (suc k) e = absurd (some-ne-none b (sym e))
at_end (x ∷ xs) a b zero e = inl e
at_end (x ∷ xs) a b (suc k) e = elim (at_end xs a b k e) [ inl h ↦ inl h | inr h ↦ inr (ap suc h.0, h.1) ]

module _ {J X : Type 0} where
  -- what the loop over the slots has so far
  abbrev pub AreResultsSoFar : List (Place J X) → List X → Type 0
  AreResultsSoFar ys outs = (k : ℕ) (y : Place J X) (x : X) → get_elem? ys k ≡ some y → get_elem? outs k ≡ some x → y.held ≡ Done x

  pub one_out : (ys : List (Place J X)) (outs : List X) (y : Place J X) (x : X) → get_elem? ys (length outs) ≡ some y → y.held ≡ Done x → AreResultsSoFar ys outs → AreResultsSoFar ys (outs ++ x ∷ [])
  one_out ys outs y x at is old k y' x' at' out = elim (at_end outs x x' k out) [
    | inl h ↦ old k y' x' at' h
    | inr h ↦
        let same : y ≡ y' = some-injective y y' (sym at ∙ ap (get_elem? ys) (sym h.0) ∙ at') in
        ap (λ (z : Place J X). z.held) (sym same) ∙ is ∙ ap Done h.1
  ]
