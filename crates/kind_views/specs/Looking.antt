-- What it does to print the line of a view.
use Rattle.std.specs.Prelude.{◌≡◌, ◌+◌, ◌≤◌, ◌++◌, ⊤, Result, OnOk, OnErr}
use Rattle.cow_lazy.specs.Views.{Lazy}
use Rattle.cow_model.specs.Lazy.{view}
use Rattle.cow_model.specs.Lexis.{Text}
use Rattle.cow_model.specs.Purse.{Purse}
use Rattle.cow_model.specs.declared.memory.NoMemory.{NoMemory}
use Rattle.cow_model.specs.declared.statement.Verb.{Verb}
use Rattle.cow_views.specs.Views.{view_cost, view_line}

-- one whole line was appended, or nothing; the view is as it was, the units too, and no more was copied than is allowed
pub record Looked (verb : Verb) (before after : Lazy) (text text' : Text) (h h' : Purse) (r : Result ⊤ NoMemory) : Type 0 where
  pub same : after ≡ before
  pub line : OnOk r (text' ≡ text ++ view_line verb (view before.shape before.base.value))
  pub err : OnErr r (text' ≡ text)
  pub spare : h'.spare ≡ h.spare
  pub copied : h'.copied ≤ h.copied + view_cost verb before.base.value
  pub kept : h.copied ≤ h'.copied
