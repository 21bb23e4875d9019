use Rattle.std.proofs.Common.{◌≡◌, take}
use Rattle.cow_model.specs.Lexis.{is_printable}
use Rattle.cow_lexis.proofs.lines.is_printable.Given as goal

abbrev pub invariant-loop-byte : goal.invariant-loop-byte
invariant-loop-byte l = l.all ≡ is_printable (take l.byte-index l.line)
