use Rattle.std.proofs.Common.{◌≡◌, drop}
use Rattle.cow_model.specs.Fork.{captured_all}
use Rattle.cow_plain.proofs.fork.captured_all.Given as goal

-- what was captured so far, and the captures to come
abbrev pub invariant-loop-capture : goal.invariant-loop-capture
invariant-loop-capture l = captured_all l.made (drop l.capture-index l.captures) ≡ captured_all l.fn.c l.captures
