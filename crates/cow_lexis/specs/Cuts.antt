-- Where tokens, numbers and texts end that stand at the front of a line.
use Rattle.std.specs.Prelude.{◌≡◌, ◌≢◌, ℕ, zero, suc, ◌+◌, ◌-◌, ◌<◌, ◌≤◌, ◌^◌, ℤ, pos, neg_ℤ, Bool, true, false, ◌==◌, List, [], ◌∷◌, ◌++◌, length, take, drop, slice_index, Option, Some, None, MatchOption, if◌then◌else◌}
use Rattle.std.specs.Borrow.{Bor}
use Rattle.std.specs.List.{list_any}
use Rattle.std.specs.Option.{option_map}
use Rattle.std.specs.Str.Parse.{digits_value}
use Rattle.cow_model.specs.declared.reading.Quoting.{Quoting}
use Rattle.cow_model.specs.declared.reading.Quoting.TheVariants.{Start, Plain}
use Rattle.cow_model.specs.Lexis.{Text, is_cut, lines_of, quoting_after, tokens_of}
use Rattle.cow_model.specs.Integer.{is_digit, integer_of, positive_of}
use Rattle.cow_model.specs.Atom.{is_escapable}

-- empty lines before others
abbrev pub with_empty : ℕ → List Text → List Text
with_empty zero lines = lines
with_empty (suc n) lines = [] ∷ with_empty n lines

-- no line has a byte
abbrev pub AreEmpty : List Text → Type 0
AreEmpty lines = (n : ℕ) × (lines ≡ with_empty n [])

-- the empty lines before the first line that isn't empty, that line, and what stands behind its newline; none where all lines are empty
abbrev pub NextLine : Text → Option (ℕ × Bor Text × Bor Text) → Type 0
NextLine text result =
    MatchOption result
    (AreEmpty (lines_of text))
    (λ cut. lines_of text ≡ with_empty cut.0 (cut.1.now ∷ lines_of cut.2.now))

-- what stands behind this byte, where a text begins with it
abbrev pub BehindByte : ℕ → Text → Option (Bor Text) → Type 0
BehindByte byte text result =
    MatchOption result
    (0 < length text → slice_index text 0 ≢ byte)
    (λ more. (0 < length text) × (slice_index text 0 ≡ byte) × (more.now ≡ drop 1 text))

-- how many bytes stand before the first cut
abbrev pub cut_len : Quoting → Text → ℕ
cut_len at [] = 0
cut_len at (b ∷ bs) = if is_cut at b then 0 else suc (cut_len (quoting_after at b) bs)

-- what stands before the first cut of a line
abbrev pub first_token : Text → Text
first_token line = take (cut_len Start line) line

-- what stands behind it
abbrev pub behind_token : Text → Text
behind_token line = drop (cut_len Start line + 1) line

-- what stands behind a token that ends here; none where it goes on
abbrev pub BehindEnd : Text → Option (Bor Text) → Type 0
BehindEnd rest result =
    MatchOption result
    (0 < cut_len Plain rest)
    (λ after. (cut_len Plain rest ≡ 0) × (after.now ≡ drop 1 rest))

-- the first token, and what stands behind it; none where a line has no token
abbrev pub NextToken : Text → Option (Bor Text × Bor Text) → Type 0
NextToken line result =
    MatchOption result (tokens_of line ≡ []) (λ cut. tokens_of line ≡ cut.0.now ∷ tokens_of cut.1.now)

-- the number that a digit writes; none where the byte is no digit
abbrev pub DigitOf : ℕ → Option ℕ → Type 0
DigitOf byte result =
    MatchOption result
    (is_digit byte ≡ false)
    (λ digit. (is_digit byte ≡ true) × (digit ≡ byte - 48))

-- how many digits stand at the front
abbrev pub digits_len : Text → ℕ
digits_len [] = 0
digits_len (b ∷ bs) = if is_digit b then suc (digits_len bs) else 0

-- how many bytes at the front may be those of an integer: a `-` or not, and the digits behind it
abbrev pub integer_len : Text → ℕ
integer_len [] = 0
integer_len (b ∷ bs) = if b == 45 then suc (digits_len bs) else digits_len (b ∷ bs)

-- the number that the digits at the front write, and how many they are
pub record FrontNumber (line : Text) (number len : ℕ) : Type 0 where
  pub value : number ≡ digits_value 10 (take len line)
  pub count : len ≡ digits_len line
  pub fits : len ≤ length line
  pub small : number < 10 ^ len

-- up to 19 digits at the front; none where they are more
abbrev pub FewDigits : Text → Option (ℕ × ℕ) → Type 0
FewDigits line result =
    MatchOption result (19 < digits_len line) (λ front. FrontNumber line front.0 front.1)

-- the number that the digits at the front write, of which the first isn't `0`, up to `most`, and how many they are
abbrev pub front_positive : ℕ → Text → Option (ℕ × ℕ)
front_positive most line =
    option_map (λ n. (n, digits_len line)) (positive_of most (take (digits_len line) line))

-- the integer that a `-` and the digits at the front write, and how many they are
abbrev pub front_negative : Text → Option (ℤ × ℕ)
front_negative digits =
    option_map
    (λ n. (neg_ℤ (pos n), digits_len digits))
    (positive_of (2 ^ 63) (take (digits_len digits) digits))

-- the integer that the front writes, and how many bytes it has
abbrev pub front_integer : Text → Option (ℤ × ℕ)
front_integer line =
    option_map (λ x. (x, integer_len line)) (integer_of (take (integer_len line) line))

-- a text that is cut at its first `"` or `\`: the run before it, that byte, and what stands behind it
pub record CutAtEscape (text run : Text) (byte : ℕ) (after : Text) : Type 0 where
  pub parts : text ≡ run ++ byte ∷ after
  pub bare : list_any is_escapable run ≡ false
  pub escape : is_escapable byte ≡ true

-- a text is cut at its first `"` or `\`, unless it has neither
abbrev pub FirstEscape : Text → Option (Bor Text × ℕ × Bor Text) → Type 0
FirstEscape text result =
    MatchOption result
    (list_any is_escapable text ≡ false)
    (λ cut. CutAtEscape text cut.0.now cut.1 cut.2.now)

-- a content before what is read behind it
abbrev pub and_front : Text → Option (Text × Text) → Option (Text × Text)
and_front content front = option_map (λ f. (content ++ f.0, f.1)) front

-- the content of a text whose opening quote is read, and what stands behind its closing quote; `true` stands right behind a `\`
abbrev pub front_of : Bool → Text → Option (Text × Text)
front_of escaped [] = None
front_of true (b ∷ bs) = if is_escapable b then and_front (b ∷ []) (front_of false bs) else None
front_of false (b ∷ bs) =
    if b == 34 then Some ([], bs)
    else if b == 92 then front_of true bs
    else and_front (b ∷ []) (front_of false bs)

-- the byte right behind a `\`, and what stands behind it; none where that may not stand there
abbrev pub EscapedByte : Text → Option (ℕ × Bor Text) → Type 0
EscapedByte text result =
    MatchOption result
    (front_of true text ≡ None)
    (λ cut. front_of true text ≡ and_front (cut.0 ∷ []) (front_of false cut.1.now))

-- the content behind a `\` was read up to the closing quote, with what stands behind that, onto what was read before; none where there is no text
abbrev pub ReadsEscaped : Text → Text → Text → Option (Bor Text) → Type 0
ReadsEscaped text before content result =
    MatchOption result
    (front_of true text ≡ None)
    (λ after. and_front before (front_of true text) ≡ Some (content, after.now))

-- the content of a text, whose opening quote is read, was read, with what stands behind its closing quote; none where there is no text
abbrev pub ReadsContent : Text → Text → Option (Bor Text) → Type 0
ReadsContent text content result =
    MatchOption result
    (front_of false text ≡ None)
    (λ after. front_of false text ≡ Some (content, after.now))
