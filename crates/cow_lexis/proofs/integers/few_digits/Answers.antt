use Rattle.std.proofs.Common.{◌-◌, get_or, arith}
use Rattle.cow_lexis.proofs.Digits.{digit_ahead, digit_below, few_below, next_digit, no_digit_ahead, one_more_below}
use Rattle.cow_lexis.proofs.integers.few_digits.Goals as goal

pub overflow_mul-number : goal.overflow_mul-number
overflow_mul-number c = omega (arith, few_below c.loop-i.i 18 c.loop-i.number (omega (arith, c.requires, c.loop-i-test.true)) c.loop-i.invariant.2)

pub overflow_add-number : goal.overflow_add-number
overflow_add-number c =
    omega (arith, few_below c.loop-i.i 18 c.loop-i.number (omega (arith, c.requires, c.loop-i-test.true)) c.loop-i.invariant.2, c.in-Some.ensures.1, digit_below (get_or c.args.front.now c.loop-i.i 0) c.in-Some.ensures.0)

pub returns-in-None : goal.returns-in-None
returns-in-None c = record {
  value = c.loop-i.invariant.0;
  count = omega (arith, c.loop-i.invariant.1, no_digit_ahead c.args.front.now c.loop-i.i c.loop-i-test.true c.in-None.ensures);
  fits = omega (arith, c.loop-i-test.true);
  small = c.loop-i.invariant.2;
}

pub loop-i-preserved : goal.loop-i-preserved
loop-i-preserved c =
    let line = c.args.front.now in
    let i = c.loop-i.i in
    let digit = c.in-Some.ensures.0 in
    let more = next_digit line i c.loop-i-test.true digit in
    let below = one_more_below i c.loop-i.number (get_or line i 0 - 48) c.loop-i.invariant.2 (digit_below (get_or line i 0) digit) in
    (omega (arith, more, c.loop-i.invariant.0, c.in-Some.ensures.1), omega (arith, c.loop-i.invariant.1, digit_ahead line i c.loop-i-test.true digit), omega (arith, below, c.in-Some.ensures.1))
