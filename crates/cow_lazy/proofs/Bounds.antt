-- A view has no more elements than the list under it, and no more units.
use Rattle.std.proofs.Common.{◌≡◌, ℕ, ℤ, ◌+◌, ◌*◌, ◌≤◌, Bool, true, false, List, [], ◌∷◌, length, map, filter, count_by, cond, arith}
use Rattle.std.proofs.lemmas.Grind.{common_steps}
use Rattle.std.proofs.lemmas.List.{length-map}
use Rattle.std.proofs.lemmas.List.Sums.{length-filter, count_by-le-length}
use Rattle.cow_model.specs.Lazy.{view, mapped, passes}
use Rattle.cow_model.specs.Purse.{Purse, Moves, noted, less}
use Rattle.cow_model.specs.declared.plain.Literal.{Literal}
use Rattle.cow_model.specs.declared.plain.Literal.TheVariants.{Int, Text}
use Rattle.cow_model.specs.declared.shape.Shape.{Shape}
use Rattle.cow_model.specs.declared.shape.Shape.TheVariants.{Add, Negate, Even, Below}

-- fewer are kept than there are
few-kept : (p : Literal → Bool) (items : List Literal) → length (filter p items) ≤ length items
few-kept p items = omega (arith, length-filter p items, count_by-le-length p items)

-- a view has no more elements
pub view-few : (shape : Shape) (items : List Literal) → length (view shape items) ≤ length items
view-few (Add k) items = omega (arith, length-map items (mapped (Add k)))
view-few Negate items = omega (arith, length-map items (mapped Negate))
view-few Even items = few-kept (passes Even) items
view-few (Below k) items = few-kept (passes (Below k)) items

module _ (counted : Literal → Bool) where
  -- one more that is kept or not
  one-kept : (b : Bool) (a : Literal) (kept items : List Literal) → count_by counted kept ≤ count_by counted items → count_by counted (cond b (a ∷ kept) kept) ≤ count_by counted (a ∷ items)
  one-kept true a kept items h = grind (arith, common_steps, h)
  one-kept false a kept items h = grind (arith, common_steps, h)

  -- those that are kept have no more units
  units-kept : (p : Literal → Bool) (items : List Literal) → count_by counted (filter p items) ≤ count_by counted items
  units-kept p [] = omega arith
  units-kept p (a ∷ items) = one-kept (p a) a (filter p items) items (units-kept p items)

  module _ (free : (x : ℤ) → counted (Int x) ≡ false) where
    -- nor have those that were mapped, since integers have none
    units-mapped : (shape : Shape) (items : List Literal) → count_by counted (map (mapped shape) items) ≤ count_by counted items
    units-mapped shape [] = omega arith
    units-mapped shape (Int x ∷ items) = grind (arith, common_steps, free, units-mapped shape items)
    units-mapped shape (Text bytes ∷ items) = grind (arith, common_steps, units-mapped shape items)

    -- a view has no more units
    pub view-units : (shape : Shape) (items : List Literal) → count_by counted (view shape items) ≤ count_by counted items
    view-units (Add k) items = units-mapped (Add k) items
    view-units Negate items = units-mapped Negate items
    view-units Even items = units-kept (passes Even) items
    view-units (Below k) items = units-kept (passes (Below k)) items

-- the copies of a list of n elements are no more than those of one of m
few-copies : (w n m : ℕ) → n ≤ m → w * n ≤ w * m
few-copies w n m h = grind (arith, common_steps, h)

-- what a view costs, by numbers
moved : (w u u' n n' : ℕ) (h : Purse) → u ≤ u' → n ≤ n' → Moves (1 + u') (w * n') h (noted (w * n) (less (1 + u) h))
moved w u u' n n' h below few = record {
  falls = omega (arith, below);
  rises = omega arith;
  copied = omega (arith, few-copies w n n' few);
  kept = omega arith;
}

-- what a view costs, by the list under it
pub view-moves : (counted : Literal → Bool) → ((x : ℤ) → counted (Int x) ≡ false) → (w : ℕ) (shape : Shape) (items : List Literal) (h : Purse) → Moves (1 + count_by counted items) (w * length items) h (noted (w * length (view shape items)) (less (1 + count_by counted (view shape items)) h))
view-moves counted free w shape items h =
    moved w (count_by counted (view shape items)) (count_by counted items) (length (view shape items)) (length items) h (view-units counted free shape items) (view-few shape items)
