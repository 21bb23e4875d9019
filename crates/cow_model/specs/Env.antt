-- An environment: what the names of a block stand for, and what the sharing rule knows of them.
use Rattle.std.specs.Prelude.{ℕ, ◌+◌, Bool, false, ◌||◌, nat_lt, List, [], ◌∷◌, ◌++◌, length, slice_get, slice_set, position, Option, Some, None, is_some}
use Rattle.std.specs.List.{remove}
use Rattle.std.specs.Str.{bytes_eq}
use Rattle.cow_model.specs.Lexis.{Text}
use Rattle.cow_model.specs.declared.outcome.Entry.{Entry}
use Rattle.cow_model.specs.declared.outcome.Environment.{Environment}

-- the most names of an environment
abbrev pub max_names : ℕ
max_names = 64

-- the bytes that `show` may print in one block
abbrev pub max_shown : ℕ
max_shown = 4194304

-- the environment at the start of a block, with these names
abbrev pub start_with : List Entry → Environment
start_with names = record { names = names; room = max_shown; allowed = 0 }

-- the environment at the start of a script
abbrev pub start : Environment
start = start_with []

-- where a name stands
abbrev pub place_of : Text → List Entry → Option ℕ
place_of name names = position (λ e. bytes_eq e.name name) names

-- the entry at a place
abbrev pub entry_at : Option ℕ → List Entry → Option Entry
entry_at None names = None
entry_at (Some i) names = slice_get names i

-- the entry of a name
abbrev pub entry_of : Text → List Entry → Option Entry
entry_of name names = entry_at (place_of name names) names

-- whether a name may be given a value: it is there already, or fewer than 64 names are
abbrev pub has_place : Text → List Entry → Bool
has_place name names = is_some (place_of name names) || nat_lt (length names) max_names

-- the names with an entry at a place, or last where there is no place for it
abbrev pub given_at : Option ℕ → Entry → List Entry → List Entry
given_at None e names = names ++ e ∷ []
given_at (Some i) e names = slice_set names i e

-- the names once a name stands for a value
abbrev pub given : Entry → List Entry → List Entry
given e names = given_at (place_of e.name names) e names

-- the names without the one at a place
abbrev pub without_at : Option ℕ → List Entry → List Entry
without_at None names = names
without_at (Some i) names = remove names i

-- the names without one
abbrev pub without : Text → List Entry → List Entry
without name names = without_at (place_of name names) names

-- an entry whose value isn't taken to be alone
abbrev pub shared : Entry → Entry
shared e = record e { alone = false }

-- the names with the entry at a place no longer alone
abbrev pub settled_at : Option ℕ → Option Entry → List Entry → List Entry
settled_at (Some i) (Some e) names = slice_set names i (shared e)
settled_at place entry names = names

-- the names with one of them no longer alone
abbrev pub settled : Text → List Entry → List Entry
settled name names = settled_at (place_of name names) (entry_of name names) names

-- the environment with other names
abbrev pub renamed : List Entry → Environment → Environment
renamed names env = record env { names = names }

-- the environment once so many more copies are allowed
abbrev pub allow : ℕ → Environment → Environment
allow n env = record env { allowed = env.allowed + n }
