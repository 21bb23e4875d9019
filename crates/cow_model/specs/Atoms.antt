-- The literal atoms of a statement, and which statements are bare: those that no counted item comes of.
use Rattle.std.specs.Prelude.{◌≡◌, ℕ, Bool, true, false, List, [], ◌∷◌, All, count_by}
use Rattle.cow_model.specs.Literals.{FitsText}
use Rattle.cow_model.specs.Sharing.{Layer}
use Rattle.cow_model.specs.declared.plain.Literal.{Literal}
use Rattle.cow_model.specs.declared.statement.Kind.{Kind}
use Rattle.cow_model.specs.declared.statement.Kind.TheVariants.{TSet, TDict}
use Rattle.cow_model.specs.declared.statement.Statement.{Statement, out-Statement}
use Rattle.cow_model.specs.declared.statement.Statement.TheOpen.{Statement-F}
use Rattle.cow_model.specs.declared.statement.TaskBlock.{TaskBlock, out-TaskBlock}

-- the atoms, as many as `literals` counts
abbrev pub atoms_of : Layer → List Literal
atoms_of (Statement-F.Let l n k atoms) = atoms
atoms_of (Statement-F.Append l n a) = a ∷ []
atoms_of (Statement-F.Prepend l n a) = a ∷ []
atoms_of (Statement-F.Insert l n a) = a ∷ []
atoms_of (Statement-F.InsertAt l n i a) = a ∷ []
atoms_of (Statement-F.Update l n a) = a ∷ []
atoms_of (Statement-F.Remove l n x) = x ∷ []
atoms_of (Statement-F.Set l n i a) = a ∷ []
atoms_of (Statement-F.Get l n x) = x ∷ []
atoms_of (Statement-F.Has l n a) = a ∷ []
atoms_of (Statement-F.Place l n a) = a ∷ []
atoms_of (Statement-F.Replace l n s a) = a ∷ []
atoms_of (Statement-F.Splice l n i j atoms) = atoms
atoms_of (Statement-F.Put l n k v) = k ∷ v ∷ []
atoms_of statement = []

-- no text among them has more than 255 bytes
abbrev pub FitsTexts : Layer → Type 0
FitsTexts statement = All FitsText (atoms_of statement)

-- how many of them are counted items
abbrev pub counted_in : (Literal → Bool) → Layer → ℕ
counted_in is_counted statement = count_by is_counted (atoms_of statement)

-- a kind whose values are trees of counted nodes
abbrev pub is_tree_kind : Kind → Bool
is_tree_kind TSet = true
is_tree_kind TDict = true
is_tree_kind kind = false

-- whether a statement makes a tree
abbrev pub makes_tree : Layer → Bool
makes_tree (Statement-F.Let l n k atoms) = is_tree_kind k
makes_tree statement = false

-- a statement that is no fork is bare where it makes no tree, and none of its atoms is counted
pub record IsBareStep (is_counted : Literal → Bool) (statement : Layer) : Type 0 where
  pub flat : makes_tree statement ≡ false
  pub plain : counted_in is_counted statement ≡ 0

-- the statements of a task
abbrev pub IsBareTask : (Literal → Bool) → TaskBlock → Type 0
IsBareTask is_counted task = All (λ s. IsBareStep is_counted (out-Statement s)) (out-TaskBlock task).statements

-- a fork is bare where its tasks are
abbrev pub IsBareLayer : (Literal → Bool) → Layer → Type 0
IsBareLayer is_counted (Statement-F.Fork l tasks) = All (IsBareTask is_counted) tasks
IsBareLayer is_counted statement = IsBareStep is_counted statement

-- all statements of a block
abbrev pub IsBareBlock : (Literal → Bool) → List Statement → Type 0
IsBareBlock is_counted block = All (λ s. IsBareLayer is_counted (out-Statement s)) block
