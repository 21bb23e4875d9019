-- The digits at the front of a line, and the number that they write.
use Rattle.std.proofs.Common.{◌≡◌, ℕ, zero, suc, ◌+◌, ◌-◌, ◌*◌, ◌<◌, ◌≤◌, ◌^◌, min, Bool, true, false, cond, ◌&&◌, [], ◌∷◌, length, take, drop, get_or, arith, refl, sym, ◌∙◌, ap, add-one, drop-cons, inl, inr}
use Rattle.std.specs.Char.{digit_value}
use Rattle.std.specs.List.{list_all}
use Rattle.std.specs.Str.Parse.{digits_value}
use Rattle.std.proofs.lemmas.Int.Digits.{digits_value_more}
use Rattle.std.proofs.lemmas.Bool.{cases_lt}
use Rattle.std.proofs.lemmas.List.{take-take}
use Rattle.std.proofs.lemmas.List.Sums.{AllPass-from_list_all}
use Rattle.std.proofs.lemmas.Grind.{pow_more}
use Rattle.cow_model.specs.Integer.{is_digit}
use Rattle.cow_model.specs.Lexis.{Text}
use Rattle.cow_lexis.specs.Cuts.{digits_len, FrontNumber}

-- ---- how many digits

-- a digit at this place is one more of those at the front
pub digit_ahead : (line : Text) (i : ℕ) → i < length line → is_digit (get_or line i 0) ≡ true → digits_len (drop i line) ≡ suc (digits_len (drop (i + 1) line))
digit_ahead line i lt is =
    ap digits_len (drop-cons line i 0 lt) ∙ (ap (λ t. cond t (suc (digits_len (drop (suc i) line))) 0) is ∙ ap (λ n. suc (digits_len (drop n line))) (sym (add-one i)))

-- another byte at this place ends them
pub no_digit_ahead : (line : Text) (i : ℕ) → i < length line → is_digit (get_or line i 0) ≡ false → digits_len (drop i line) ≡ 0
no_digit_ahead line i lt is =
    ap digits_len (drop-cons line i 0 lt) ∙ ap (λ t. cond t (suc (digits_len (drop (suc i) line))) 0) is

le_more : (t : Bool) (n m : ℕ) → n ≤ m → cond t (suc n) 0 ≤ suc m
le_more true n m le = omega (arith, le)
le_more false n m le = omega arith

-- no more digits than bytes
pub digits_len_le : (line : Text) → digits_len line ≤ length line
digits_len_le [] = omega arith
digits_len_le (b ∷ bs) = le_more (is_digit b) (digits_len bs) (length bs) (digits_len_le bs)

min_more : (t : Bool) (n x y : ℕ) → x ≡ min n y → cond t (suc x) 0 ≡ min (suc n) (cond t (suc y) 0)
min_more true n x y is = omega (arith, is)
min_more false n x y is = omega arith

-- the digits at the front of the first bytes
pub digits_len-take : (n : ℕ) (line : Text) → digits_len (take n line) ≡ min n (digits_len line)
digits_len-take zero line = omega arith
digits_len-take (suc n) [] = omega arith
digits_len-take (suc n) (b ∷ bs) = min_more (is_digit b) n (digits_len (take n bs)) (digits_len bs) (digits_len-take n bs)

split_more : (t : Bool) (n x y : ℕ) → suc n ≤ cond t (suc x) 0 → (n ≤ x → x ≡ n + y) → cond t (suc x) 0 ≡ suc n + y
split_more true n x y le is = omega (arith, is (omega (arith, le)))
split_more false n x y le is = absurd (omega (arith, le))

-- digits up to this place, and those behind it
pub digits_len-split : (n : ℕ) (line : Text) → n ≤ digits_len line → digits_len line ≡ n + digits_len (drop n line)
digits_len-split zero line le = omega arith
digits_len-split (suc n) [] le = absurd (omega (arith, le))
digits_len-split (suc n) (b ∷ bs) le = split_more (is_digit b) n (digits_len bs) (digits_len (drop n bs)) le (digits_len-split n bs)

all_more : (t : Bool) (n : ℕ) (b : ℕ) (bs : Text) → t ≡ is_digit b → list_all is_digit (take n bs) ≡ true → list_all is_digit (take (cond t (suc n) 0) (b ∷ bs)) ≡ true
all_more true n b bs is all = rw (← is, all) refl
all_more false n b bs is all = refl

-- they are digits
pub all_digits : (line : Text) → list_all is_digit (take (digits_len line) line) ≡ true
all_digits [] = refl
all_digits (b ∷ bs) = all_more (is_digit b) (digits_len bs) b bs refl (all_digits bs)

short_more : (t : Bool) (n m : ℕ) (more : Bool) → cond t (suc n) 0 < suc m → (n < m → more ≡ false) → (t && more) ≡ false
short_more true n m more lt is = is (omega (arith, lt))
short_more false n m more lt is = refl

-- a line that goes on behind its digits isn't all digits
pub not_all_digits : (line : Text) → digits_len line < length line → list_all is_digit line ≡ false
not_all_digits [] lt = absurd (omega (arith, lt))
not_all_digits (b ∷ bs) lt = short_more (is_digit b) (digits_len bs) (length bs) (list_all is_digit bs) lt (not_all_digits bs)

-- ---- the number that they write

digit_value_is : (d : ℕ) → is_digit d ≡ true → digit_value d ≡ d - 48
digit_value_is d is = grind arith

pub digit_below : (d : ℕ) → is_digit d ≡ true → d - 48 < 10
digit_below d is = grind arith

-- one digit more behind digits, whatever stands behind it
pub next_digit : (line : Text) (i : ℕ) → i < length line → is_digit (get_or line i 0) ≡ true → digits_value 10 (take (i + 1) line) ≡ digits_value 10 (take i line) * 10 + (get_or line i 0 - 48)
next_digit line i lt is =
    digits_value_more 10 line i lt ∙ ap (λ v. digits_value 10 (take i line) * 10 + v) (digit_value_is (get_or line i 0) is)

ten_le : (k i m : ℕ) → i + k ≡ m → 10 ^ i ≤ 10 ^ m
ten_le zero i m is =
    let same : i ≡ m = omega (arith, is) in
    omega (arith, ap (λ j. 10 ^ j) same)
ten_le (suc k) i m is =
    let up = ten_le k (i + 1) m (omega (arith, is)) in
    omega (arith, up, pow_more 10 i)

-- a number of few digits is below this power
pub few_below : (i m n : ℕ) → i ≤ m → n < 10 ^ i → n < 10 ^ m
few_below i m n le lt = omega (arith, ten_le (m - i) i m (omega (arith, le)), lt)

-- and one digit more
pub one_more_below : (i n d : ℕ) → n < 10 ^ i → d < 10 → n * 10 + d < 10 ^ (i + 1)
one_more_below i n d lt below = omega (arith, pow_more 10 i, lt, below)

-- digits whose first isn't `0` write at least this power
pub power_le : (word : Text) (i j : ℕ) → j ≡ i + 1 → 49 ≤ get_or word 0 0 → list_all is_digit word ≡ true → i < length word → 10 ^ i ≤ digits_value 10 (take j word)
power_le word zero j is first all lt =
    let digit = AllPass-from_list_all is_digit word all 0 0 lt in
    let count : j ≡ 0 + 1 = omega (arith, is) in
    omega (arith, ap (λ n. digits_value 10 (take n word)) count, next_digit word 0 lt digit, first)
power_le word (suc i) j is first all lt =
    let below : i + 1 < length word = omega (arith, lt) in
    let digit = AllPass-from_list_all is_digit word all (i + 1) 0 below in
    let count : j ≡ i + 1 + 1 = omega (arith, is) in
    let power : suc i ≡ i + 1 = omega arith in
    let before = power_le word i (i + 1) refl first all (omega (arith, lt)) in
    omega (arith, ap (λ n. digits_value 10 (take n word)) count, next_digit word (i + 1) below digit, before, ap (λ n. 10 ^ n) power, pow_more 10 i)

-- the number at the front of the first bytes is that of the line, where no digit stands behind them
pub front_of_few : (line front : Text) (number len : ℕ) → front ≡ take 19 line → FrontNumber front number len → (len ≡ 19 → digits_len (drop 19 line) ≡ 0) → FrontNumber line number len
front_of_few line front number len is found ends =
    let few : len ≡ min 19 (digits_len line) = found.count ∙ (ap digits_len is ∙ digits_len-take 19 line) in
    let count : len ≡ digits_len line = elim (cases_lt len 19) [
      | inl lt ↦ omega (arith, few, lt)
      | inr le ↦
          let full : len ≡ 19 = omega (arith, few, le) in
          omega (arith, few, full, ends full, digits_len-split 19 line (omega (arith, few, full)))
    ] in
    let same : take len front ≡ take len line = ap (take len) is ∙ take-take len 19 line (omega (arith, few)) in
    record {
      value = found.value ∙ ap (digits_value 10) same;
      count = count;
      fits = omega (arith, count, digits_len_le line);
      small = found.small;
    }

-- and the line has more digits, where one does
pub more_than_few : (line front : Text) (number len : ℕ) → front ≡ take 19 line → FrontNumber front number len → len ≡ 19 → 0 < digits_len (drop 19 line) → 19 < digits_len line
more_than_few line front number len is found full more =
    let few : len ≡ min 19 (digits_len line) = found.count ∙ (ap digits_len is ∙ digits_len-take 19 line) in
    omega (arith, few, full, more, digits_len-split 19 line (omega (arith, few, full)))
