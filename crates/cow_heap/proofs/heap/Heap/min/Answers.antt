use Rattle.cow_model.specs.declared.plain.Literal.{Literal}
use Rattle.cow_model.specs.Members.{ascending}
use Rattle.cow_model.specs.Flat.{Flat}
use Rattle.cow_heap.proofs.Sorted.{ascends_itself}
use Rattle.std.proofs.Common.{List, map, ap, subst, ◌≡◌}
use Rattle.std.proofs.Common.{sym}
use Rattle.cow_heap.proofs.Extremes.{least_shown}
use Rattle.cow_heap.proofs.heap.Heap.min.Goals as goal

pub returns-clause-value : goal.returns-clause-value
returns-clause-value g c =
    rw (← c.self.view_is) (sym (least_shown g.T.Item.plain c.self.inside.cell.value.items c.get.result.now c.self.invariant.0.levels (rw c.get-row.ensures at c.get.ensures)))

-- the list that contracts see is the ascending list of the items
pub returns-clause-ascends : goal.returns-clause-ascends
returns-clause-ascends g c =
    subst (λ (l : List Literal). ascending l ≡ l) (ap (λ (f : Flat (List Literal)). f.value) c.self.view_is) (ascends_itself (map g.T.Item.plain c.self.inside.cell.value.items))
