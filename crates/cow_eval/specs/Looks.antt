-- What a lazy statement does to the text.
use Rattle.std.specs.Prelude.{◌≡◌, ℕ, ◌+◌, ◌<◌, List, ◌++◌, length, Option, IfSome, IfNone}
use Rattle.cow_model.specs.Lazy.{view}
use Rattle.cow_model.specs.Lexis.{Text}
use Rattle.cow_model.specs.declared.plain.Literal.{Literal}
use Rattle.cow_model.specs.declared.shape.Shape.{Shape}
use Rattle.cow_model.specs.declared.statement.Verb.{Verb}
use Rattle.cow_model.specs.declared.statement.Verb.TheVariants as verb
use Rattle.cow_views.specs.Views.{view_line}

-- the room that the line of a lazy statement uses: only `show` uses any
abbrev pub used_room : Verb → Text → ℕ
used_room verb.Show line = length line
used_room other line = 0

-- a line that uses no more than the room was appended, and so much is left; where it would use more, nothing was
pub record LooksWithin (shape : Shape) (verb : Verb) (items : List Literal) (room : ℕ) (said said' : Text) (left : Option ℕ) : Type 0 where
  pub fits : IfSome left (λ n. (said' ≡ said ++ view_line verb (view shape items)) × (n + used_room verb (view_line verb (view shape items)) ≡ room))
  pub longer : IfNone left ((said' ≡ said) × (room < used_room verb (view_line verb (view shape items))))
