use Rattle.std.proofs.Common.{◌≡◌, length}
use Rattle.std.specs.Cmp.Lexicographic.{pointwise}
use Rattle.cow_plain.proofs.plain.same_list.Given as goal

-- the lists behind the items that were compared are one exactly where the whole lists are
abbrev pub invariant-loop-items : goal.invariant-loop-items
invariant-loop-items g l = pointwise g.T.Same.same l.items l.others ≡ pointwise g.T.Same.same l.fn.items l.fn.others

abbrev pub decreases-loop-items : goal.decreases-loop-items
decreases-loop-items g l = length l.items
