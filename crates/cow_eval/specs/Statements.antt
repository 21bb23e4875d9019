-- The statements as the evaluator takes them.
use Rattle.std.specs.Prelude.{◌≡◌, ◌≤◌, Bool, true, false, List, is_some, ⊤}
use Rattle.cow_model.specs.Atoms.{FitsTexts}
use Rattle.cow_model.specs.Env.{place_of}
use Rattle.cow_model.specs.Plain.{max_count}
use Rattle.cow_model.specs.Sharing.{Layer, literals}
use Rattle.cow_model.specs.declared.outcome.Entry.{Entry}
use Rattle.cow_model.specs.declared.statement.Statement.TheOpen.{Statement-F}
use Rattle.cow_value.specs.Built.{is_built}

-- a statement of a script that can be run: it is built, no text has more than 255 bytes, and there are at most 65,536 literals
pub record IsRunnable (s : Layer) : Type 0 where
  pub built : is_built s ≡ true
  pub texts : FitsTexts s
  pub few : literals s ≤ max_count

-- `let N = M` and `drop N`, which take no memory where their names are there
abbrev pub is_free : Layer → Bool
is_free (Statement-F.Assign l n m) = true
is_free (Statement-F.Discard l n) = true
is_free s = false

-- those names are there
abbrev pub AreThere : List Entry → Layer → Type 0
AreThere names (Statement-F.Assign l n m) = (is_some (place_of n names) ≡ true) × (is_some (place_of m names) ≡ true)
AreThere names (Statement-F.Discard l n) = is_some (place_of n names) ≡ true
AreThere names s = ⊤
