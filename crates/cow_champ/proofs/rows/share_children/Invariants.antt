use Rattle.std.proofs.Common.{◌≡◌, ◌≤◌, map, take, All, false}
use Rattle.cow_champ.specs.Node.{value_of}
use Rattle.cow_champ.specs.Spending.{Spends}
use Rattle.cow_champ.proofs.rows.share_children.Given as goal

abbrev pub invariant-loop-c : goal.invariant-loop-c
invariant-loop-c g l =
    (map (λ c. value_of c) l.shared.items ≡ map (λ c. value_of c) (take l.c-index l.row.items)) × All (λ c. c.alone ≡ false) l.shared.items × Spends l.c-index 0 l.fn.h l.h
