-- Tokens, read from left to right: each reader takes what is due next, or says what is wrong there.
use Rattle.std.specs.Prelude.{ℕ, ℤ, ◌+◌, Bool, nat_lt, List, [], ◌∷◌, Option, Some, None, Result, Ok, Err, if◌then◌else◌}
use Rattle.std.specs.Str.{bytes_eq}
use Rattle.cow_model.specs.declared.fault.Flaw.{Flaw}
use Rattle.cow_model.specs.declared.fault.Flaw.TheVariants.{BadWord, BadAtom, BadName, Limit}
use Rattle.cow_model.specs.declared.plain.Literal.{Literal}
use Rattle.cow_model.specs.declared.reading.Due.{Due}
use Rattle.cow_model.specs.declared.reading.Due.TheVariants.{Group, FirstName, NextName}
use Rattle.cow_model.specs.declared.statement.Capture.{Capture}
use Rattle.cow_model.specs.Lexis.{Text}
use Rattle.cow_model.specs.Integer.{integer_of}
use Rattle.cow_model.specs.Name.{is_name}
use Rattle.cow_model.specs.Atom.{atom_of}
use Rattle.cow_model.specs.Words.{group_of}

-- what is read of the tokens, and those behind it
abbrev pub Reader : Type 0 → Type 0
Reader A = List Text → Result (A × List Text) Flaw

-- goes on with what was read, or stops at the first flaw
abbrev pub and_then : {A B : Type 0} → Result A Flaw → (A → Result B Flaw) → Result B Flaw
and_then (Ok x) next = next x
and_then (Err flaw) next = Err flaw

infixl 10 ◌>>=◌
-- one reader, and then another, which knows what the first has read
abbrev pub ◌>>=◌ : {A B : Type 0} → Reader A → (A → Reader B) → Reader B
reader >>= next = λ tokens. and_then (reader tokens) (λ x. next x.0 x.1)

infixl 10 ◌>>◌
-- one reader, and then another
abbrev pub ◌>>◌ : {A B : Type 0} → Reader A → Reader B → Reader B
reader >> next = reader >>= (λ _. next)

-- reads nothing more
abbrev pub pure : {A : Type 0} → A → Reader A
pure x = λ tokens. Ok (x, tokens)

-- goes on where there is no flaw
abbrev pub checked : {A : Type 0} → Result A Flaw → Reader A
checked test = λ tokens. and_then test (λ x. Ok (x, tokens))

-- what is there, or else a flaw
abbrev pub or_flaw : {A : Type 0} → Flaw → Option A → Result A Flaw
or_flaw flaw None = Err flaw
or_flaw flaw (Some x) = Ok x

-- one token, as `read` takes it; a missing one is a bad word
abbrev pub due : {A : Type 0} → (Text → Result A Flaw) → Reader A
due read [] = Err BadWord
due read (token ∷ tokens) = and_then (read token) (λ x. Ok (x, tokens))

-- the name that a token is
abbrev pub name_of : Text → Result Text Flaw
name_of token = if is_name token then Ok token else Err BadName

-- a name is due
unfoldable pub due_name : Reader Text
due_name = due name_of

-- an atom is due
unfoldable pub due_atom : Reader Literal
due_atom = due atom_of

-- an integer is due
unfoldable pub due_integer : Reader ℤ
due_integer = due (λ token. or_flaw BadAtom (integer_of token))

-- one of the words of a table is due
unfoldable pub due_word : {A : Type 0} → (Text → Option A) → Reader A
due_word meaning = due (λ token. or_flaw BadWord (meaning token))

-- this very token is due
unfoldable pub due_token : Text → Reader (Unit {0})
due_token word = due (λ token. if bytes_eq token word then Ok tt else Err BadWord)

-- nothing more is due
unfoldable pub no_more : Reader (Unit {0})
no_more [] = Ok (tt, [])
no_more (token ∷ tokens) = Err BadWord

-- the most atoms of a line
abbrev pub max_atoms : ℕ
max_atoms = 65536

-- an atom behind this many others
abbrev pub numbered_atom : ℕ → Text → Result Literal Flaw
numbered_atom n token = and_then (atom_of token) (λ atom. if nat_lt n max_atoms then Ok atom else Err (Limit (max_atoms + 1) max_atoms))

-- the atoms that the tokens are, behind this many others
unfoldable pub atoms_from : ℕ → List Text → Result (List Literal) Flaw
atoms_from n [] = Ok []
atoms_from n (token ∷ tokens) = and_then (numbered_atom n token) (λ atom. and_then (atoms_from (n + 1) tokens) (λ atoms. Ok (atom ∷ atoms)))

-- atoms are due up to the end of the line
abbrev pub all_atoms : Reader (List Literal)
all_atoms tokens = and_then (atoms_from 0 tokens) (λ atoms. Ok (atoms, []))

-- a name of a group that moves, or doesn't
abbrev pub captured : Bool → Text → Result (Due × Option Capture) Flaw
captured moves token = and_then (name_of token) (λ name. Ok (NextName moves, Some (record { moves = moves; name = name })))

-- a token where no name is due, by what it means as the word of a group
abbrev pub group_due : Option Bool → Result (Due × Option Capture) Flaw
group_due None = Err BadWord
group_due (Some moves) = Ok (FirstName moves, None)

-- a token behind a name of a group: the word of another group, or one more name
abbrev pub next_due : Bool → Text → Option Bool → Result (Due × Option Capture) Flaw
next_due moves token None = captured moves token
next_due moves token (Some other) = Ok (FirstName other, None)

-- a token behind `task`: what is due behind it, and what it captures
abbrev pub capture_of : Due → Text → Result (Due × Option Capture) Flaw
capture_of Group token = group_due (group_of token)
capture_of (FirstName moves) token = captured moves token
capture_of (NextName moves) token = next_due moves token (group_of token)

-- nothing more stands behind `task`: each group has one name at least
abbrev pub captures_end : Due → Result (Unit {0}) Flaw
captures_end Group = Ok tt
captures_end (FirstName moves) = Err BadWord
captures_end (NextName moves) = Ok tt

-- a capture, if there is one, before others
abbrev pub with_capture : Option Capture → List Capture → List Capture
with_capture None captures = captures
with_capture (Some capture) captures = capture ∷ captures

-- what the tokens behind `task` capture, where this is due first
unfoldable pub captures_from : Due → List Text → Result (List Capture) Flaw
captures_from due [] = and_then (captures_end due) (λ _. Ok [])
captures_from due (token ∷ tokens) = and_then (capture_of due token) (λ x. and_then (captures_from x.0 tokens) (λ others. Ok (with_capture x.1 others)))

-- groups of names are due up to the end of the line
abbrev pub all_captures : Reader (List Capture)
all_captures tokens = and_then (captures_from Group tokens) (λ captures. Ok (captures, []))
