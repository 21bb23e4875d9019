use Rattle.std.proofs.Common.{◌≡◌, ◌++◌, drop}
use Rattle.std.specs.List.{flat_map}
use Rattle.cow_model.specs.Printed.{escaped}
use Rattle.cow_plain.proofs.printed.put_escaped.Given as goal

-- the text so far, and then the bytes to come
abbrev pub invariant-loop-byte : goal.invariant-loop-byte
invariant-loop-byte l = l.to.items ++ flat_map escaped (drop l.byte-index l.bytes) ≡ l.fn.to.items ++ flat_map escaped l.bytes
