-- The statements that are built, kind by kind and word by word, and where one stands that isn't.
use Rattle.std.specs.Prelude.{ℕ, Bool, true, false, Option, Some, None, if◌then◌else◌}
use Rattle.std.specs.Option.{is_none}
use Rattle.cow_model.specs.Sharing.{Layer}
use Rattle.cow_model.specs.declared.statement.Kind.{Kind}
use Rattle.cow_model.specs.declared.statement.Kind.TheVariants as kind
use Rattle.cow_model.specs.declared.statement.Statement.TheOpen.{Statement-F}

-- the kinds
abbrev pub is_built_kind : Kind → Bool
is_built_kind kind.Array = true
is_built_kind kind.Deque = true
is_built_kind kind.Set = true
is_built_kind kind.Dict = true
is_built_kind kind.OSet = true
is_built_kind kind.ODict = true
is_built_kind kind.Heap = true
is_built_kind k = false

-- the line of a statement that isn't built: its word isn't, or in a `let` its kind
abbrev pub unbuilt_at : Layer → Option ℕ
unbuilt_at (Statement-F.Let l n k atoms) = if is_built_kind k then None else Some l
unbuilt_at (Statement-F.Lazy l n i verb) = Some l
unbuilt_at s = None

-- whether a statement is built
abbrev pub is_built : Layer → Bool
is_built (Statement-F.Let l n k atoms) = is_built_kind k
is_built s = is_none (unbuilt_at s)
