use Rattle.std.proofs.Common.{◌≡◌, ◌+◌, drop}
use Rattle.cow_model.specs.declared.reading.Quoting.TheVariants.{Start}
use Rattle.cow_lexis.specs.Cuts.{cut_len}
use Rattle.cow_lexis.proofs.tokens.quoted_len.Given as goal

abbrev pub invariant-loop-i : goal.invariant-loop-i
invariant-loop-i l = l.i + cut_len l.at (drop l.i l.line) ≡ cut_len Start l.line
