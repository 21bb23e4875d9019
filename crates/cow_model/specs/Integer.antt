-- An integer of a script: `0`, or digits whose first isn't `0`, behind a `-` or not, within 64 bits.
use Rattle.std.specs.Prelude.{ℕ, ℤ, pos, neg_ℤ, ◌-◌, ◌^◌, Bool, false, ◌&&◌, nat_le, [], ◌∷◌, drop, Option, Some, None, codes, if◌then◌else◌}
use Rattle.std.specs.List.{list_all}
use Rattle.std.specs.Option.{option_map}
use Rattle.std.specs.Str.{bytes_eq}
use Rattle.std.specs.Str.Parse.{digits_value, starts_with_minus}
use Rattle.cow_model.specs.Lexis.{Text}

-- a digit `0` to `9`
abbrev pub is_digit : ℕ → Bool
is_digit b = nat_le 48 b && nat_le b 57

-- digits, of which the first isn't `0`
abbrev pub is_positive : Text → Bool
is_positive [] = false
is_positive (d ∷ ds) = nat_le 49 d && list_all is_digit (d ∷ ds)

-- the number that such digits write, up to a limit
abbrev pub positive_of : ℕ → Text → Option ℕ
positive_of most word = if is_positive word && nat_le (digits_value 10 word) most then Some (digits_value 10 word) else None

-- the integer that a word writes
abbrev pub integer_of : Text → Option ℤ
integer_of word =
    if bytes_eq word (codes "0") then Some (pos 0)
    else if starts_with_minus word then option_map (λ n. neg_ℤ (pos n)) (positive_of (2 ^ 63) (drop 1 word))
    else option_map pos (positive_of (2 ^ 63 - 1) word)
