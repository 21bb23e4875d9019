use Rattle.std.proofs.Common.{◌≡◌, ◌+◌, ◌<◌, ◌^◌, take, drop}
use Rattle.std.specs.Str.Parse.{digits_value}
use Rattle.cow_lexis.specs.Cuts.{digits_len}
use Rattle.cow_lexis.proofs.integers.few_digits.Given as goal

-- the number so far, the digits to come, and that one more fits
abbrev pub invariant-loop-i : goal.invariant-loop-i
invariant-loop-i l =
    (l.number ≡ digits_value 10 (take l.i l.front))
    × (l.i + digits_len (drop l.i l.front) ≡ digits_len l.front)
    × (l.number < 10 ^ l.i)
