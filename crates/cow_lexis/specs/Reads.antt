-- What a function that reads answers, for what the definitions say.
use Rattle.std.specs.Prelude.{◌≡◌, List, [], ◌∷◌, Option, Some, None, Result, Ok, Err, ⊤}
use Rattle.std.specs.Borrow.{Bor}
use Rattle.cow_model.specs.declared.fault.Flaw.{Flaw}
use Rattle.cow_model.specs.declared.plain.Literal.{Literal}
use Rattle.cow_model.specs.Atom.{atom_of}
use Rattle.cow_model.specs.Lexis.{Text}
use Rattle.cow_model.specs.Readers.{and_then}
use Rattle.cow_lexis.specs.Cuts.{behind_token, first_token}
use Rattle.cow_lexis.specs.declared.stop.Stop.{Stop}
use Rattle.cow_lexis.specs.declared.stop.Stop.TheVariants as stop

-- nothing was read: there is this flaw, or memory ran out
abbrev pub Fails : {A : Type 0} → Stop → Result A Flaw → Type 0
Fails (stop.Flaw flaw) said = said ≡ Err flaw
Fails stop.NoMemory said = ⊤

-- what is said was answered
abbrev pub Gives : {A : Type 0} → Result A Flaw → Result A Stop → Type 0
Gives said (Ok x) = said ≡ Ok x
Gives said (Err why) = Fails why said

-- what is said was read, and these tokens are left
abbrev pub Reads : {A : Type 0} → Result (A × List Text) Flaw → Result A Stop → List Text → Type 0
Reads said (Ok x) left = said ≡ Ok (x, left)
Reads said (Err why) left = Fails why said

-- the first token of a line was read as an atom, and what stands behind it is left
abbrev pub ReadsFront : Text → Result (Literal × Bor Text) Stop → Type 0
ReadsFront line (Ok front) = (atom_of (first_token line) ≡ Ok front.0) × (front.1.now ≡ behind_token line)
ReadsFront line (Err why) = Fails why (atom_of (first_token line))

-- the atom that the next token is, and the tokens behind it; or no atom, where there is no token
abbrev pub atom_ahead : List Text → Result (Option Literal × List Text) Flaw
atom_ahead [] = Ok (None, [])
atom_ahead (token ∷ tokens) = and_then (atom_of token) (λ atom. Ok (Some atom, tokens))
