use Rattle.std.proofs.Common.{◌≡◌, take}
use Rattle.cow_array.proofs.slice.ArraySlice.equals.Given as goal

abbrev pub invariant-loop-i : goal.invariant-loop-i
invariant-loop-i g l = take l.i l.self.value.items ≡ take l.i l.other.value.items
