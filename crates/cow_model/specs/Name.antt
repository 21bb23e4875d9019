-- A name of a script: a letter and up to 15 more of letters, digits and `_`, and no reserved word.
use Rattle.std.specs.Prelude.{ℕ, Bool, false, ◌&&◌, ◌||◌, not, nat_le, List, [], ◌∷◌, length, codes, ◌==◌}
use Rattle.std.specs.List.{list_all, list_any}
use Rattle.std.specs.Str.{bytes_eq}
use Rattle.cow_model.specs.Lexis.{Text}
use Rattle.cow_model.specs.Integer.{is_digit}

-- a letter `a` to `z`
abbrev pub is_letter : ℕ → Bool
is_letter b = nat_le 97 b && nat_le b 122

-- what may follow the first letter of a name
abbrev pub goes_on : ℕ → Bool
goes_on b = is_letter b || is_digit b || b == 95

-- words that are no names
abbrev pub reserved : List Text
reserved = codes "array" ∷ codes "slice" ∷ codes "deque" ∷ codes "set" ∷ codes "dict" ∷ codes "oset" ∷ codes "odict" ∷ codes "heap" ∷ codes "tset" ∷ codes "tdict" ∷ codes "copy" ∷ codes "take" ∷ codes "as" ∷ []

-- whether a word is one of these
unfoldable pub is_reserved : Text → Bool
is_reserved word = list_any (λ r. bytes_eq r word) reserved

-- whether a word is a name
abbrev pub is_name : Text → Bool
is_name [] = false
is_name (b ∷ bs) = is_letter b && list_all goes_on bs && nat_le (length bs) 15 && not (is_reserved (b ∷ bs))
