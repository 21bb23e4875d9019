use Rattle.std.proofs.Common.{◌≡◌, take, drop}
use Rattle.cow_elements.proofs.keeps.shows.Given as goal

-- the elements so far are the atoms so far
abbrev pub invariant-loop-k : goal.invariant-loop-k
invariant-loop-k g l = take l.k (drop l.from (g.L.Listed.elements l.list)) ≡ take l.k l.atoms
