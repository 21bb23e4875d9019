-- An atom of a script: an integer, or a text in quotes.
use Rattle.std.specs.Prelude.{ℕ, ℤ, Bool, true, false, ◌||◌, nat_le, [], ◌∷◌, length, ◌==◌, Option, Some, None, Result, Ok, Err, if◌then◌else◌}
use Rattle.std.specs.Option.{option_map}
use Rattle.cow_model.specs.declared.fault.Flaw.{Flaw}
use Rattle.cow_model.specs.declared.fault.Flaw.TheVariants.{BadAtom, Limit}
use Rattle.cow_model.specs.declared.plain.Literal.{Literal}
use Rattle.cow_model.specs.declared.plain.Literal.TheVariants as literal
use Rattle.cow_model.specs.Lexis.{Text}
use Rattle.cow_model.specs.Integer.{integer_of}

-- what a `\` may stand before
abbrev pub is_escapable : ℕ → Bool
is_escapable b = b == 34 || b == 92

-- the content of a text, of which the bytes behind its opening quote are read; `true` stands right behind a `\`
abbrev pub content_of : Bool → Text → Option Text
content_of escaped [] = None
content_of true (b ∷ bs) = if is_escapable b then option_map (λ more. b ∷ more) (content_of false bs) else None
content_of false (b ∷ bs) =
    if b == 34 then (if length bs == 0 then Some [] else None)
    else if b == 92 then content_of true bs
    else option_map (λ more. b ∷ more) (content_of false bs)

-- a text of at most 255 bytes, if it is one
abbrev pub text_atom : Option Text → Result Literal Flaw
text_atom None = Err BadAtom
text_atom (Some bytes) = if nat_le (length bytes) 255 then Ok (literal.Text bytes) else Err (Limit (length bytes) 255)

-- an integer, if it is one
abbrev pub int_atom : Option ℤ → Result Literal Flaw
int_atom None = Err BadAtom
int_atom (Some x) = Ok (literal.Int x)

-- the atom that a token is, or why it is none
unfoldable pub atom_of : Text → Result Literal Flaw
atom_of [] = Err BadAtom
atom_of (b ∷ bs) = if b == 34 then text_atom (content_of false bs) else int_atom (integer_of (b ∷ bs))
