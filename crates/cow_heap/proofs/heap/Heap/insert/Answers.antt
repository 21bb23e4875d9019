use Rattle.std.proofs.Common.{arith}
use Rattle.cow_heap.proofs.Costs.{count_ascent}
use Rattle.cow_heap.proofs.heap.Heap.insert.Goals as goal

pub invariant_of-self-2 : goal.invariant_of-self-2
invariant_of-self-2 g c =
    let n = count_ascent g.T.Item.plain c.self.inside.cell.value.items in
    let growth = rw (← c.self.view_is) at c.requires.growth in
    let count = rw c.only.ensures.value at c.insert.ensures.count in
    (c.insert.ensures.heap, omega (arith, n, growth, count, c.prepare.ensures.count))

pub returns-clause-doubled : goal.returns-clause-doubled
returns-clause-doubled g c =
    let n = count_ascent g.T.Item.plain c.self.inside.cell.value.items in
    let count = rw c.only.ensures.value at c.insert.ensures.count in
    let capacity = rw c.only.ensures.value at c.insert.ensures.capacity in
    let before = c.prepare.ensures.count in
    rw (← c.self.view_is) (λ few.
    let wide = c.in_default.ensures.doubled (omega (arith, few)) in
    record { twice = omega (arith, n, count, before, capacity, wide.1); four = omega (arith, n, count, before, capacity, wide.0) })
