-- What a lazy statement prints of a value, and what it allows.
use Rattle.std.specs.Prelude.{◌≡◌, ℕ, ◌++◌, Bool, true, false, List, [], length, slice_get, ⊤, Result, OnOk, OnErr}
use Rattle.std.specs.Fmt.{decimal}
use Rattle.cow_model.specs.Lazy.{view}
use Rattle.cow_model.specs.Lexis.{Text}
use Rattle.cow_model.specs.Printed.{line, atom_text, list_text, nil_or}
use Rattle.cow_model.specs.declared.memory.NoMemory.{NoMemory}
use Rattle.cow_model.specs.declared.plain.Literal.{Literal}
use Rattle.cow_model.specs.declared.shape.Shape.{Shape}
use Rattle.cow_model.specs.declared.statement.Verb.{Verb}
use Rattle.cow_model.specs.declared.statement.Verb.TheVariants as verb
use Rattle.cow_model.specs.declared.value.Plain.{Plain}
use Rattle.cow_model.specs.declared.value.Plain.TheVariants.{Array}
use Rattle.cow_value.specs.Seen.{Seen, shared}

-- whether a value has views
abbrev pub has_views : Plain → Bool
has_views (Array items) = true
has_views value = false

-- the atoms of a value that has views
abbrev pub items_of : Plain → List Literal
items_of (Array items) = items
items_of value = []

-- the line that is printed of the atoms of a view
abbrev pub view_line : Verb → List Literal → Text
view_line verb.First seen = line (nil_or atom_text (slice_get seen 0))
view_line verb.Show seen = line (list_text seen)
view_line verb.Count seen = line (decimal (length seen))

-- the copies that a lazy statement allows, by the atoms of the array
abbrev pub view_cost : Verb → List Literal → ℕ
view_cost verb.First items = 1
view_cost verb.Show items = length items
view_cost verb.Count items = 0

-- what a lazy statement does through a rule of this shape: the value isn't alone afterwards; one whole line, or nothing
pub record Looks (shape : Shape) (verb : Verb) (before after : Seen) (text text' : Text) (r : Result ⊤ NoMemory) : Type 0 where
  pub same : after ≡ shared before
  pub line : OnOk r (text' ≡ text ++ view_line verb (view shape (items_of before.value)))
  pub kept : OnErr r (text' ≡ text)
