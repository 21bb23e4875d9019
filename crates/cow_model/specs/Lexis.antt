-- The lines of a script, and the words and tokens of a line.
use Rattle.std.specs.Prelude.{ℕ, Bool, false, ◌&&◌, nat_le, List, [], ◌∷◌, ◌++◌, ◌==◌, if◌then◌else◌}
use Rattle.std.specs.List.{slice_split, list_all}
use Rattle.cow_model.specs.declared.reading.Quoting.{Quoting}
use Rattle.cow_model.specs.declared.reading.Quoting.TheVariants.{Start, Plain, Quoted, Escaped}

-- the bytes of a text
abbrev pub Text : Type 0
Text = List ℕ

-- parts without the last one where it is empty
abbrev pub without_empty_end : List Text → List Text
without_empty_end [] = []
without_empty_end ([] ∷ []) = []
without_empty_end (part ∷ parts) = part ∷ without_empty_end parts

-- what stands between newlines, where nothing behind the last newline is no line
unfoldable pub lines_of : Text → List Text
lines_of bytes = without_empty_end (slice_split (λ b. b == 10) bytes)

-- whether a script may have this byte in a line
abbrev pub is_printable_byte : ℕ → Bool
is_printable_byte b = nat_le 32 b && nat_le b 126

-- whether a line has only the bytes that a script may have
abbrev pub is_printable : Text → Bool
is_printable line = list_all is_printable_byte line

-- whether a byte is a space between tokens
abbrev pub is_cut : Quoting → ℕ → Bool
is_cut Start b = b == 32
is_cut Plain b = b == 32
is_cut Quoted b = false
is_cut Escaped b = false

-- where the next byte stands: a quote opens only as the first byte of a token, and the first quote that isn't escaped closes
abbrev pub quoting_after : Quoting → ℕ → Quoting
quoting_after Start b = if b == 34 then Quoted else Plain
quoting_after Plain b = Plain
quoting_after Quoted b = if b == 34 then Plain else if b == 92 then Escaped else Quoted
quoting_after Escaped b = Quoted

-- a token before others, unless it has no bytes
abbrev pub with_token : Text → List Text → List Text
with_token [] tokens = tokens
with_token (b ∷ bs) tokens = (b ∷ bs) ∷ tokens

-- the tokens of a line, of whose first token these bytes were read
abbrev pub tokens_from : Quoting → Text → Text → List Text
tokens_from at token [] = with_token token []
tokens_from at token (b ∷ bs) =
    if is_cut at b then with_token token (tokens_from Start [] bs)
    else tokens_from (quoting_after at b) (token ++ b ∷ []) bs

-- what stands between the spaces of a line that aren't in quotes
unfoldable pub tokens_of : Text → List Text
tokens_of line = tokens_from Start [] line
