-- What statements print: atoms, values, and the lines of refusals.
use Rattle.std.specs.Prelude.{ℕ, ◌==◌, ◌||◌, List, [], ◌∷◌, ◌++◌, map, codes, Option, Some, None, Bool, true, false, if◌then◌else◌}
use Rattle.std.specs.List.{flat_map}
use Rattle.std.specs.Fmt.{decimal, signed_decimal}
use Rattle.cow_model.specs.Lexis.{Text}
use Rattle.cow_model.specs.declared.plain.Literal.{Literal}
use Rattle.cow_model.specs.declared.plain.Literal.TheVariants as literal
use Rattle.cow_model.specs.declared.value.Pair.{Pair}
use Rattle.cow_model.specs.declared.value.Plain.{Plain}
use Rattle.cow_model.specs.declared.value.Plain.TheVariants.{Array, Slice, Deque, Set, Dict, OSet, ODict, Heap, TSet, TDict}
use Rattle.cow_model.specs.declared.refusal.Refusal.{Refusal}
use Rattle.cow_model.specs.declared.refusal.Refusal.TheVariants.{NoName, WrongKind, NoRule, OutOfRange, Full, TextFull}

-- a text and a newline
abbrev pub line : Text → Text
line text = text ++ 10 ∷ []

-- a comma and a space, and then a text
abbrev pub behind_comma : Text → Text
behind_comma text = codes ", " ++ text

-- the texts with commas between them
abbrev pub separated : List Text → Text
separated [] = []
separated (text ∷ texts) = text ++ flat_map behind_comma texts

-- a byte of a text: `"` and `\` stand behind a `\`
abbrev pub escaped : ℕ → Text
escaped b = if b == 34 || b == 92 then 92 ∷ b ∷ [] else b ∷ []

-- an integer in decimal, a text in quotes
abbrev pub atom_text : Literal → Text
atom_text (literal.Int x) = signed_decimal x
atom_text (literal.Text bytes) = 34 ∷ [] ++ flat_map escaped bytes ++ 34 ∷ []

-- a key and its value
abbrev pub pair_text : Pair → Text
pair_text p = atom_text p.key ++ codes ": " ++ atom_text p.value

-- atoms, with commas between them and brackets round them
abbrev pub list_text : List Literal → Text
list_text items = codes "[" ++ separated (map atom_text items) ++ codes "]"

-- pairs likewise; no pairs are `[:]`
abbrev pub pairs_text : List Pair → Text
pairs_text [] = codes "[:]"
pairs_text (p ∷ ps) = codes "[" ++ separated (map pair_text (p ∷ ps)) ++ codes "]"

-- the printed form of a value
abbrev pub plain_text : Plain → Text
plain_text (Array items) = list_text items
plain_text (Slice start items) = list_text items ++ codes " from " ++ decimal start
plain_text (Deque items) = list_text items
plain_text (Set items) = list_text items
plain_text (Dict pairs) = pairs_text pairs
plain_text (OSet items) = list_text items
plain_text (ODict pairs) = pairs_text pairs
plain_text (Heap items) = list_text items
plain_text (TSet items) = list_text items
plain_text (TDict pairs) = pairs_text pairs

-- what is there, or `nil`
abbrev pub nil_or : {A : Type 0} → (A → Text) → Option A → Text
nil_or text None = codes "nil"
nil_or text (Some x) = text x

-- `true` or `false`
abbrev pub truth : Bool → Text
truth true = codes "true"
truth false = codes "false"

-- the word of a refusal
abbrev pub word_of : Refusal → Text
word_of NoName = codes "no name"
word_of WrongKind = codes "wrong kind"
word_of NoRule = codes "no rule"
word_of OutOfRange = codes "out of range"
word_of Full = codes "full"
word_of TextFull = codes "text full"

-- the line of a refusal
abbrev pub refusal : Refusal → Text
refusal why = line (codes "! " ++ word_of why)
