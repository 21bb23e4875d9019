-- What contracts see of a lazy view.
use Rattle.std.specs.Prelude.{List}
use Rattle.cow_model.specs.Flat.{Flat}
use Rattle.cow_model.specs.declared.plain.Literal.{Literal}
use Rattle.cow_model.specs.declared.shape.Shape.{Shape}

-- the array under it, and the shape of the rule through which it is seen
pub record Lazy : Type 0 where
  pub base : Flat (List Literal)
  pub shape : Shape
