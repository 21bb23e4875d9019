-- The integer that the front of a line writes.
use Rattle.std.proofs.Common.{◌≡◌, ◌≢◌, ℕ, ℤ, pos, neg_ℤ, zero, suc, ◌-◌, ◌<◌, ◌≤◌, ◌^◌, Bool, true, false, cond, eqb, ◌&&◌, nat_le, [], ◌∷◌, length, take, get_or, Option, Some, None, arith, refl, sym, ◌∙◌, ap, inl, inr, ◌⊎◌}
use Rattle.std.specs.List.{list_all}
use Rattle.std.specs.Option.{option_map}
use Rattle.std.specs.Str.{bytes_eq}
use Rattle.std.specs.Str.Parse.{digits_value}
use Rattle.std.proofs.lemmas.Bool.{cases_eq, cases_lt}
use Rattle.std.proofs.lemmas.List.{length-take, take_all}
use Rattle.std.proofs.lemmas.Str.Parse.{digits_value-take-le}
use Rattle.cow_model.specs.Integer.{integer_of, is_digit, is_positive, positive_of}
use Rattle.cow_model.specs.Lexis.{Text}
use Rattle.cow_lexis.specs.Cuts.{digits_len, integer_len, FrontNumber}
use Rattle.cow_lexis.proofs.Digits.{all_digits, digits_len_le, not_all_digits, power_le}

-- ---- the number that a word of digits writes

no_number : (t s : Bool) (v : ℕ) → (t && s) ≡ false → cond (t && s) (Some v) None ≡ None
no_number t s v is = rw is refl

and_false : (t : Bool) → (t && false) ≡ false
and_false true = refl
and_false false = refl

and_true : (t s : Bool) → t ≡ true → s ≡ true → (t && s) ≡ true
and_true t s is also = rw (is, also) refl

first_of_all : (t s : Bool) → (t && s) ≡ true → t ≡ true
first_of_all true s h = refl
first_of_all false s h = h

-- a word that isn't digits behind `1` to `9`
pub positive_other : (most : ℕ) (word : Text) → is_positive word ≡ false → positive_of most word ≡ None
positive_other most word is = rw is refl

too_large : (v most : ℕ) → most < v → nat_le v most ≡ false
too_large v most lt = grind arith

fits : (v most : ℕ) → v ≤ most → nat_le v most ≡ true
fits v most le = grind arith

-- a number past the limit
pub positive_over : (most : ℕ) (word : Text) → most < digits_value 10 word → positive_of most word ≡ None
positive_over most word lt =
    no_number (is_positive word) (nat_le (digits_value 10 word) most) (digits_value 10 word) (ap (λ t. is_positive word && t) (too_large (digits_value 10 word) most lt) ∙ and_false (is_positive word))

first_low : (b : ℕ) → b ≡ 48 → nat_le 49 b ≡ false
first_low b is = grind arith

first_high : (b : ℕ) → is_digit b ≡ true → b ≢ 48 → nat_le 49 b ≡ true
first_high b is apart = grind arith

low_or_high : (t : Bool) → (t ≡ false) ⊎ (t ≡ true)
low_or_high true = inr refl
low_or_high false = inl refl

above : (b : ℕ) → nat_le 49 b ≡ true → 49 ≤ b
above b is = grind arith

-- digits that begin with `0`
pub positive_zero : (most : ℕ) (word : Text) → get_or word 0 0 ≡ 48 → positive_of most word ≡ None
positive_zero most [] is = refl
positive_zero most (b ∷ bs) is = rw (first_low b is) refl

-- more digits than any number up to the limit has
pub positive_long : (most : ℕ) (word : Text) → most < 10 ^ 19 → list_all is_digit word ≡ true → 19 < length word → positive_of most word ≡ None
positive_long most [] small all long = absurd (omega (arith, long))
positive_long most (b ∷ bs) small all long =
    elim (low_or_high (nat_le 49 b)) [
      | inl low ↦ rw low refl
      | inr high ↦
          let power = power_le (b ∷ bs) 19 20 refl (above b high) all long in
          positive_over most (b ∷ bs) (omega (arith, power, small, digits_value-take-le 10 (b ∷ bs) 20 (omega (arith, long))))
    ]

-- digits that don't, up to the limit
pub positive_some : (most : ℕ) (word : Text) → 0 < length word → list_all is_digit word ≡ true → get_or word 0 0 ≢ 48 → digits_value 10 word ≤ most → positive_of most word ≡ Some (digits_value 10 word)
positive_some most [] some all apart le = absurd (omega (arith, some))
positive_some most (b ∷ bs) some all apart le =
    let positive = and_true (nat_le 49 b) (list_all is_digit (b ∷ bs)) (first_high b (first_of_all (is_digit b) (list_all is_digit bs) all) apart) all in
    rw (and_true (is_positive (b ∷ bs)) (nat_le (digits_value 10 (b ∷ bs)) most) positive (fits (digits_value 10 (b ∷ bs)) most le)) refl

-- a word that goes on behind its digits
pub positive_short : (most : ℕ) (word : Text) → digits_len word < length word → positive_of most word ≡ None
positive_short most [] lt = refl
positive_short most (b ∷ bs) lt = positive_other most (b ∷ bs) (ap (λ t. nat_le 49 b && t) (not_all_digits (b ∷ bs) lt) ∙ and_false (nat_le 49 b))

-- the number at the front of a line, by what was read of it
pub front_long : (most : ℕ) (line : Text) → most < 10 ^ 19 → 19 < digits_len line → positive_of most (take (digits_len line) line) ≡ None
front_long most line small long =
    positive_long most (take (digits_len line) line) small (all_digits line) (omega (arith, long, length-take (digits_len line) line, digits_len_le line))

first_of_front : (line : Text) (n : ℕ) → 0 < n → get_or (take n line) 0 0 ≡ get_or line 0 0
first_of_front [] n some = ap (λ l. get_or l 0 0) (take_all n [] (omega arith))
first_of_front (b ∷ bs) zero some = absurd (omega (arith, some))
first_of_front (b ∷ bs) (suc n) some = refl

pub front_some : (most : ℕ) (line : Text) (number len : ℕ) → FrontNumber line number len → len ≢ 0 → get_or line 0 0 ≢ 48 → number ≤ most → positive_of most (take (digits_len line) line) ≡ Some number
front_some most line number len found some apart le =
    let word = take (digits_len line) line in
    let value : number ≡ digits_value 10 word = found.value ∙ ap (λ n. digits_value 10 (take n line)) found.count in
    let long : length word ≡ len = omega (arith, length-take (digits_len line) line, digits_len_le line, found.count) in
    positive_some most word (omega (arith, long, some)) (all_digits line) (λ is. apart (sym (first_of_front line (digits_len line) (omega (arith, found.count, some))) ∙ is)) (omega (arith, value, le)) ∙ ap Some (sym value)

-- ---- the integer that a word writes

pub integer_minus : (word : Text) → integer_of (45 ∷ word) ≡ option_map (λ n. neg_ℤ (pos n)) (positive_of (2 ^ 63) word)
integer_minus word = refl

pub integer_zero : (more : Text) → integer_of (48 ∷ []) ≡ Some (pos 0)
integer_zero more = refl

pub integer_long_zero : (b : ℕ) (more : Text) → integer_of (48 ∷ b ∷ more) ≡ None
integer_long_zero b more = refl

no_lone_zero : (b : ℕ) (bs : Text) → b ≢ 48 → bytes_eq (b ∷ bs) (48 ∷ []) ≡ false
no_lone_zero b bs apart = grind arith

not_byte : (b n : ℕ) → b ≢ n → eqb b n ≡ false
not_byte b n apart = grind arith

-- what `integer_of` chooses, by its two tests
chosen_plain : (z m : Bool) (p q : Option ℕ) → z ≡ false → m ≡ false → cond z (Some (pos 0)) (cond m (option_map (λ n. neg_ℤ (pos n)) p) (option_map pos q)) ≡ option_map pos q
chosen_plain z m p q no_zero no_minus = rw (no_zero, no_minus) refl

chosen_none : (z m : Bool) (p q : Option ℕ) → z ≡ false → (m ≡ true → p ≡ None) → (m ≡ false → q ≡ None) → cond z (Some (pos 0)) (cond m (option_map (λ n. neg_ℤ (pos n)) p) (option_map pos q)) ≡ None
chosen_none z true p q no_zero first other = rw (no_zero, first refl) refl
chosen_none z false p q no_zero first other = rw (no_zero, other refl) refl

-- a word that begins with neither
pub integer_plain : (b : ℕ) (bs : Text) → b ≢ 45 → b ≢ 48 → integer_of (b ∷ bs) ≡ option_map pos (positive_of (2 ^ 63 - 1) (b ∷ bs))
integer_plain b bs no_minus no_zero = chosen_plain _ _ _ _ (no_lone_zero b bs no_zero) (not_byte b 45 no_minus)

short_minus : (m : Bool) (x y n : ℕ) → cond m (suc x) y < suc n → m ≡ true → x < n
short_minus true x y n lt is = omega (arith, lt)
short_minus false x y n lt is = cc

short_plain : (m : Bool) (x y n : ℕ) → cond m (suc x) y < suc n → m ≡ false → y < suc n
short_plain true x y n lt is = cc
short_plain false x y n lt is = lt

short_zero : (b : ℕ) (bs : Text) → integer_len (b ∷ bs) < length (b ∷ bs) → bytes_eq (b ∷ bs) (48 ∷ []) ≡ false
short_zero b [] lt = elim (cases_eq b 48) [
  | inl is ↦ absurd (omega (arith, ap (λ d. integer_len (d ∷ [])) is, lt))
  | inr other ↦ no_lone_zero b [] other
]
short_zero b (d ∷ ds) lt = and_false (eqb b 48)

-- a word that goes on behind the bytes that may be those of an integer
pub integer_short : (word : Text) → integer_len word < length word → integer_of word ≡ None
integer_short [] lt = absurd (omega (arith, lt))
integer_short (b ∷ bs) lt =
    chosen_none _ _ _ _ (short_zero b bs lt)
    (λ is. positive_short (2 ^ 63) bs (short_minus (eqb b 45) (digits_len bs) (digits_len (b ∷ bs)) (length bs) lt is))
    (λ is. positive_short (2 ^ 63 - 1) (b ∷ bs) (short_plain (eqb b 45) (digits_len bs) (digits_len (b ∷ bs)) (length bs) lt is))

-- ---- a word by its front

-- what a function of the front of a word answers, as `front_integer` says
abbrev pub FrontIs : Text → Option (ℤ × ℕ) → Type 0
FrontIs word front = front ≡ option_map (λ x. (x, integer_len word)) (integer_of (take (integer_len word) word))

none_is : (found : Option ℤ) (n : ℕ) → ◌≡◌ {A = Option (ℤ × ℕ)} None (option_map (λ y. (y, n)) found) → found ≡ None
none_is None n is = refl
none_is (Some y) n is = cc

pub front_none : (word : Text) → FrontIs word None → integer_of (take (integer_len word) word) ≡ None
front_none word is = none_is (integer_of (take (integer_len word) word)) (integer_len word) is

-- no integer stands at the front
pub no_front : (word : Text) → FrontIs word None → integer_of word ≡ None
no_front word is =
    elim (cases_lt (integer_len word) (length word)) [
      | inl lt ↦ integer_short word lt
      | inr le ↦ ap integer_of (sym (take_all (integer_len word) word le)) ∙ front_none word is
    ]

count_is : (found : Option ℤ) (x : ℤ) (len n : ℕ) → ◌≡◌ {A = Option (ℤ × ℕ)} (Some (x, len)) (option_map (λ y. (y, n)) found) → len ≡ n
count_is None x len n is = cc
count_is (Some y) x len n is =
    let same : ◌≡◌ {A = ℤ × ℕ} (x, len) (y, n) = cc in
    ap (λ (p : ℤ × ℕ). p.1) same

pub front_count : (word : Text) (x : ℤ) (len : ℕ) → FrontIs word (Some (x, len)) → len ≡ integer_len word
front_count word x len is = count_is (integer_of (take (integer_len word) word)) x len (integer_len word) is

-- one stands there, and the word goes on
pub short_front : (word : Text) (x : ℤ) (len : ℕ) → FrontIs word (Some (x, len)) → len < length word → integer_of word ≡ None
short_front word x len is lt =
    let count = front_count word x len is in
    integer_short word (omega (arith, count, lt))

value_is : (found : Option ℤ) (x : ℤ) (len n : ℕ) → ◌≡◌ {A = Option (ℤ × ℕ)} (Some (x, len)) (option_map (λ y. (y, n)) found) → found ≡ Some x
value_is None x len n is = cc
value_is (Some y) x len n is =
    let same : ◌≡◌ {A = ℤ × ℕ} (x, len) (y, n) = cc in
    ap (λ (p : ℤ × ℕ). Some p.0) (sym same)

pub front_value : (word : Text) (x : ℤ) (len : ℕ) → FrontIs word (Some (x, len)) → integer_of (take (integer_len word) word) ≡ Some x
front_value word x len is = value_is (integer_of (take (integer_len word) word)) x len (integer_len word) is

-- one stands there, and nothing behind it
pub whole_front : (word : Text) (x : ℤ) (len : ℕ) → FrontIs word (Some (x, len)) → length word ≤ len → integer_of word ≡ Some x
whole_front word x len is le =
    let count = front_count word x len is in
    ap integer_of (sym (take_all (integer_len word) word (omega (arith, count, le)))) ∙ front_value word x len is
