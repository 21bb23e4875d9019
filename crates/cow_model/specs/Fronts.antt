-- Texts that are written in part.
use Rattle.std.specs.Prelude.{◌≡◌, ◌++◌}
use Rattle.cow_model.specs.Lexis.{Text}

-- a text is a front of another
abbrev pub IsFrontOf : Text → Text → Type 0
IsFrontOf front whole = (rest : Text) × (front ++ rest ≡ whole)

-- a text grew by a front of what there was to write
pub record GrowsWithin (old new whole : Text) : Type 0 where
  pub added : Text
  pub front : IsFrontOf added whole
  pub grown : new ≡ old ++ added
