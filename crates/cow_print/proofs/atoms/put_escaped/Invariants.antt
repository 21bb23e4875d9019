use Rattle.std.proofs.Common.{◌≡◌, ◌++◌, length}
use Rattle.std.specs.Io.{StartsWith}
use Rattle.std.specs.List.{flat_map}
use Rattle.cow_model.specs.Printed.{escaped}
use Rattle.cow_print.proofs.atoms.put_escaped.Given as goal

-- the text so far, and then the bytes to come
abbrev pub invariant-loop-run : goal.invariant-loop-run
invariant-loop-run l =
    (l.text.items ++ flat_map escaped l.rest ≡ l.fn.text.items ++ flat_map escaped l.bytes)
    × StartsWith l.text.items l.fn.text.items

abbrev pub decreases-loop-run : goal.decreases-loop-run
decreases-loop-run l = length l.rest
