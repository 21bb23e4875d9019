use Rattle.std.proofs.Common.{◌≡◌, take, reverse}
use Rattle.cow_elements.proofs.keeps.is_palindrome.Given as goal

-- the elements so far are those in the opposite order
abbrev pub invariant-loop-i : goal.invariant-loop-i
invariant-loop-i g l = take l.i (g.L.Listed.elements l.list) ≡ take l.i (reverse (g.L.Listed.elements l.list))
