-- The steps that the calls make, from what is known of the units.
use Rattle.std.proofs.Common.{◌+◌, ◌<◌, ◌≤◌, ◌^◌, Option, Some, None, IfSome, IfNone, refl, arith}
use Rattle.cow_model.specs.Purse.{Purse}
use Rattle.cow_cell.specs.OneCell.{Took, make, retain, leave, last, finds_one, finds_more}

module _ {X : Type 0} (x : X) (h : Purse) where
  pub made : h.spare + 1 ≤ 2 ^ 62 → Took make x h
  made l = record { cell = record { value = x; handles = 0 }; left = 1; shows = refl; turns = (refl, refl); stock = omega (arith, l) }

  pub retained : h.spare + 2 ≤ 2 ^ 62 → Took retain x h
  retained l = record { cell = record { value = x; handles = 1 }; left = 2; shows = refl; turns = (omega arith, refl); stock = omega (arith, l) }

  pub ended : {A : Type 0} (o : Option A) → h.spare ≤ 2 ^ 62 → IfSome o (λ _. Took last x h)
  ended None l = tt
  ended (Some a) l = record { cell = record { value = x; handles = 1 }; left = 0; shows = refl; turns = (refl, refl); stock = omega (arith, l) }

  pub left : {A : Type 0} (o : Option A) → IfNone o (h.spare < 2 ^ 62) → IfNone o (Took leave x h)
  left None l = record { cell = record { value = x; handles = 2 }; left = 1; shows = refl; turns = (omega arith, refl); stock = omega (arith, l) }
  left (Some a) l = tt

  pub found_one : {A : Type 0} (o : Option A) → h.spare < 2 ^ 62 → IfSome o (λ _. Took finds_one x h)
  found_one None l = tt
  found_one (Some a) l = record { cell = record { value = x; handles = 1 }; left = 1; shows = refl; turns = (refl, refl); stock = omega (arith, l) }

  pub found_more : {A : Type 0} (o : Option A) → IfNone o (h.spare + 2 ≤ 2 ^ 62) → IfNone o (Took finds_more x h)
  found_more None l = record { cell = record { value = x; handles = 2 }; left = 2; shows = refl; turns = (omega arith, refl); stock = omega (arith, l) }
  found_more (Some a) l = tt
