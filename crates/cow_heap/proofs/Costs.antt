-- What the ascending list of a heap's items has in common with the items.
use Rattle.std.proofs.Common.{◌≡◌, ℕ, ◌*◌, ◌↔◌, List, [], ◌∷◌, length, map, count_by, Bool, refl, ap, ◌∙◌, arith}
use Rattle.std.proofs.lemmas.List.{length-map}
use Rattle.cow_cell.specs.declared.counted.Counted.{Counted}
use Rattle.cow_heap.specs.Heaps.{ascent, seen}
use Rattle.cow_model.proofs.Ascending.{length_ascending, count_ascending}
use Rattle.cow_model.specs.Lists.{Pays}
use Rattle.cow_model.specs.Purse.{Purse}
use Rattle.cow_model.specs.declared.plain.Literal.{Literal}
use Rattle.cow_row.specs.RowView.{RowView}
use Rattle.cow_row.specs.Words.{Costs, units}

module _ {T : Type 0} (plain : T → Literal) where
  pub count_ascent : (xs : List T) → length (ascent plain xs) ≡ length xs
  count_ascent xs = length_ascending (map plain xs) ∙ length-map xs plain

  pub units_ascent : (is_counted : Literal → Bool) (xs : List T) → count_by is_counted (ascent plain xs) ≡ units plain is_counted xs
  units_ascent is_counted xs = count_ascending is_counted (map plain xs)

  pub none_ascend : (xs : List T) → (ascent plain xs ≡ []) ↔ (xs ≡ [])
  none_ascend [] = (λ e. refl, λ e. refl)
  none_ascend (x ∷ xs) = (λ e. absurd (omega (arith, ap length e, count_ascent (x ∷ xs))), λ e. cc)

  -- what a change of the row costs is what a change of the heap does
  pub pays : {Q : Type 0} (is_counted : Literal → Bool) (weight : ℕ) (c : Counted (RowView T) Q) (h h' : Purse) → Costs plain is_counted (weight * length c.value.items) c h h' → Pays is_counted weight (seen plain c) h h'
  pays is_counted weight c h h' paid = rw (units_ascent is_counted c.value.items, count_ascent c.value.items) paid
