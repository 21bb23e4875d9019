-- What stands at the front of a line, and what takes the next token.
use Rattle.std.specs.Prelude.{◌≡◌, ℤ, List, [], ◌∷◌, Option, Some, None, MatchOption, Ok, ⊤}
use Rattle.std.specs.Borrow.{Bor}
use Rattle.cow_model.specs.declared.plain.Literal.{Literal}
use Rattle.cow_model.specs.declared.plain.Literal.TheVariants as literal
use Rattle.cow_model.specs.Atom.{atom_of}
use Rattle.cow_model.specs.Integer.{integer_of}
use Rattle.cow_model.specs.Lexis.{Text}
use Rattle.cow_lexis.specs.Cuts.{behind_token, first_token}
use Rattle.cow_lexis.specs.Reads.{atom_ahead}

-- the first token is the text of this content, and this stands behind it
abbrev pub FrontText : Text → Option (Bor Text × Bor Text) → Type 0
FrontText line result =
    MatchOption result ⊤ (λ front.
    (atom_of (first_token line) ≡ Ok (literal.Text front.0.now))
    × (front.1.now ≡ behind_token line))

-- the first token is this integer, and this stands behind it; none where it is no integer
abbrev pub FrontInt : Text → Option (ℤ × Bor Text) → Type 0
FrontInt line result =
    MatchOption result (integer_of (first_token line) ≡ None) (λ front.
    (integer_of (first_token line) ≡ Some front.0)
    × (front.1.now ≡ behind_token line))

-- the next token was taken, unless there was none
abbrev pub TakesToken : List Text → Option (Bor Text) → List Text → Type 0
TakesToken before result after =
    MatchOption result ((before ≡ []) × (after ≡ [])) (λ token. before ≡ token.now ∷ after)

-- the next token was taken as such an atom, or nothing was taken
abbrev pub TakesAtom : {A : Type 0} → (A → Literal) → List Text → Option A → List Text → Type 0
TakesAtom atom before result after =
    MatchOption result (after ≡ before) (λ x. atom_ahead before ≡ Ok (Some (atom x), after))
