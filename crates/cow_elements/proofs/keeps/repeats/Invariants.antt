use Rattle.std.proofs.Common.{◌≡◌, take}
use Rattle.cow_deque.specs.Rings.{turned}
use Rattle.cow_elements.proofs.keeps.repeats.Given as goal

-- the elements so far are those where the first k stand last
abbrev pub invariant-loop-i : goal.invariant-loop-i
invariant-loop-i g l = take l.i (g.L.Listed.elements l.list) ≡ take l.i (turned l.k (g.L.Listed.elements l.list))
