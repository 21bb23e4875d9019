use Rattle.std.proofs.Common.{refl, rules, sym}
use Rattle.std.proofs.lemmas.Int.{to_z-of_z}
use Rattle.cow_lexis.proofs.FrontIntegers.{no_front, short_front, whole_front}
use Rattle.cow_lexis.proofs.integers.integer.Goals as goal

pub returns-in_err-x : goal.returns-in_err-x
returns-in_err-x c = rw (c.from_residual.ensures, no_front c.args.word.now c.in_err-x.ensures.value) refl

pub returns-then-len-word : goal.returns-then-len-word
returns-then-len-word c = sym (short_front c.args.word.now c.in_ok-x.x c.in_ok-x.len c.in_ok-x.ensures.value c.if-len-word.true)

pub returns : goal.returns
returns c = search (rules, to_z-of_z, sym (whole_front c.args.word.now c.in_ok-x.x c.in_ok-x.len c.in_ok-x.ensures.value c.if-len-word.false))
