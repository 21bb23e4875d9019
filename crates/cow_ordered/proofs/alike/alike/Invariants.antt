use Rattle.std.proofs.Common.{◌≡◌, map, take}
use Rattle.cow_ordered.proofs.alike.alike.Given as goal

abbrev pub invariant-loop-i : goal.invariant-loop-i
invariant-loop-i g l = map g.K.Item.plain (take l.i l.left) ≡ map g.K.Item.plain (take l.i l.right)
