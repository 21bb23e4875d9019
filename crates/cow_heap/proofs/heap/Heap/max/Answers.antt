use Rattle.cow_model.specs.declared.plain.Literal.{Literal}
use Rattle.cow_model.specs.Members.{ascending}
use Rattle.cow_model.specs.Flat.{Flat}
use Rattle.cow_heap.proofs.Sorted.{ascends_itself}
use Rattle.std.proofs.Common.{List, map, ap, subst, ◌≡◌}
use Rattle.std.proofs.Common.{sym}
use Rattle.cow_heap.proofs.Costs.{count_ascent}
use Rattle.cow_heap.proofs.Extremes.{greatest_shown, settled_at}
use Rattle.cow_heap.proofs.heap.Heap.max.Goals as goal

pub returns-clause-value : goal.returns-clause-value
returns-clause-value g c =
    let row = c.self.inside.cell.value in
    rw (← c.self.view_is, count_ascent g.T.Item.plain row.items)
    (sym (greatest_shown g.T.Item.plain row.items c.max_place.result c.get.result.now (rw c.get-row.ensures at c.max_place.ensures.greatest) (rw c.get-row.ensures at c.get.ensures)))

pub returns-clause-settled : goal.returns-clause-settled
returns-clause-settled g c =
    settled_at g.T.Item.IsSettled c.self.inside.cell.value.items c.max_place.result c.get.result.now c.self.invariant.0.sound.settled (rw c.get-row.ensures at c.get.ensures)

-- the list that contracts see is the ascending list of the items
pub returns-clause-ascends : goal.returns-clause-ascends
returns-clause-ascends g c =
    subst (λ (l : List Literal). ascending l ≡ l) (ap (λ (f : Flat (List Literal)). f.value) c.self.view_is) (ascends_itself (map g.T.Item.plain c.self.inside.cell.value.items))
