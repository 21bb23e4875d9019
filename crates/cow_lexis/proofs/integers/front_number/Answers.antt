use Rattle.std.proofs.Common.{◌≡◌, ◌-◌, ◌≤◌, ◌<◌, ap, length, drop, take, arith, rules}
use Rattle.std.proofs.lemmas.List.{take_all, length-drop, length-take}
use Rattle.std.proofs.lemmas.Bool.Decides.{nat_tests}
use Rattle.cow_lexis.specs.Cuts.{digits_len}
use Rattle.cow_lexis.proofs.Digits.{front_of_few, more_than_few}
use Rattle.cow_lexis.proofs.integers.front_number.Goals as goal

pub returns-then-len-lt-MAX_DIGITS : goal.returns-then-len-lt-MAX_DIGITS
returns-then-len-lt-MAX_DIGITS c =
    front_of_few c.args.line.now c.few.result.now c.few_digits-number.result.0 c.few_digits-number.result.1 c.few.ensures c.few_digits-number.ensures (λ full. absurd (omega (arith, full, c.if-len-lt-MAX_DIGITS.true)))

pub slice_bounds-begins_with_digit-start : goal.slice_bounds-begins_with_digit-start
slice_bounds-begins_with_digit-start c =
    let long : 19 ≤ length c.args.line.now = omega (arith, length-take 19 c.args.line.now, ap (λ l. length l) c.few.ensures, c.few_digits-number.ensures.fits, c.if-len-lt-MAX_DIGITS.false) in
    search rules

pub returns-then-begins_with_digit : goal.returns-then-begins_with_digit
returns-then-begins_with_digit c =
    let line = c.args.line.now in
    let whole : take (length line - 19) (drop 19 line) ≡ drop 19 line = take_all (length line - 19) (drop 19 line) (omega (arith, length-drop 19 line)) in
    let more : 0 < digits_len (take (length line - 19) (drop 19 line)) = grind (arith, nat_tests, c.begins_with_digit.ensures, c.if-begins_with_digit.true) in
    more_than_few line c.few.result.now c.few_digits-number.result.0 c.few_digits-number.result.1 c.few.ensures c.few_digits-number.ensures (omega (arith, length-take 19 line, ap (λ l. length l) c.few.ensures, c.few_digits-number.ensures.fits, c.if-len-lt-MAX_DIGITS.false)) (rw whole at more)

pub returns : goal.returns
returns c =
    let line = c.args.line.now in
    let whole : take (length line - 19) (drop 19 line) ≡ drop 19 line = take_all (length line - 19) (drop 19 line) (omega (arith, length-drop 19 line)) in
    let ends : digits_len (take (length line - 19) (drop 19 line)) ≡ 0 = grind (arith, nat_tests, c.begins_with_digit.ensures, c.if-begins_with_digit.false) in
    front_of_few line c.few.result.now c.few_digits-number.result.0 c.few_digits-number.result.1 c.few.ensures c.few_digits-number.ensures (λ _. rw whole at ends)
