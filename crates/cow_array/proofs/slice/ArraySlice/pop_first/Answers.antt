use Rattle.std.proofs.Common.{◌∷◌, ◌-◌, arith, sym}
use Rattle.std.proofs.lemmas.Grind.{common_steps}
use Rattle.std.proofs.lemmas.List.Sorted.{length_permutation}
use Rattle.cow_row.proofs.Runs.{IsSound-out, units-out, row_steps}
use Rattle.cow_model.proofs.ListSteps.{run-rest, run-first-plain, All-at}
use Rattle.cow_array.proofs.slice.ArraySlice.pop_first.Goals as goal

pub invariant_of-self : goal.invariant_of-self
invariant_of-self g c =
    let row = c.self.inside.cell.value in
    let out = rw c.in-Some.ensures.value at c.swap_remove_front.ensures.others in
    let capacity = rw c.in-Some.ensures.value at c.swap_remove_front.ensures.capacity in
    let long = length_permutation row.items (c.swap_remove_front.result ∷ c.swap_remove_front.new.self.items) out in
    (IsSound-out g.T.Item.IsSettled row c.swap_remove_front.new.self c.swap_remove_front.result out capacity c.self.invariant.0, omega (arith, long, c.self.invariant.1), omega (arith, c.self.invariant.2), omega (arith, c.self.invariant.3), omega (arith, c.self.invariant.4))

pub returns-in-Some-clause-first : goal.returns-in-Some-clause-first
returns-in-Some-clause-first g c =
    rw (← c.self.view_is) (sym (run-first-plain g.T.Item.plain c.self.inside.cell.value.items c.self.inside.from c.self.inside.count c.swap_remove_front.result (omega arith) (rw c.in-Some.ensures.value at c.swap_remove_front.ensures.value)))

pub returns-in-Some-clause-rest : goal.returns-in-Some-clause-rest
returns-in-Some-clause-rest g c =
    let row = c.self.inside.cell.value in
    let rest = rw c.in-Some.ensures.value at c.swap_remove_front.ensures.rest in
    rw (rest, run-rest row.items c.self.inside.from (c.self.inside.count - 1) c.self.inside.count (omega arith))
    (grind (arith, common_steps, row_steps))

pub returns-in-Some-clause-units : goal.returns-in-Some-clause-units
returns-in-Some-clause-units g c =
    let out = rw c.in-Some.ensures.value at c.swap_remove_front.ensures.others in
    rw (← c.self.view_is) (units-out g.T.Item.plain g.T.Item.is_counted c.self.inside.cell.value.items c.swap_remove_front.new.self.items c.swap_remove_front.result out)

pub copy-requires-clause-settled : goal.copy-requires-clause-settled
copy-requires-clause-settled g c =
    All-at g.T.Item.IsSettled c.self.inside.cell.value.items c.self.inside.from c.get-2.result.now c.self.invariant.0.settled (rw c.get.ensures at c.get-2.ensures)

pub returns-clause-first : goal.returns-clause-first
returns-clause-first g c =
    rw (← c.self.view_is, c.copy.ensures.same) (sym (run-first-plain g.T.Item.plain c.self.inside.cell.value.items c.self.inside.from c.self.inside.count c.get-2.result.now (omega arith) (rw c.get.ensures at c.get-2.ensures)))

pub returns-clause-rest : goal.returns-clause-rest
returns-clause-rest g c =
    rw (run-rest c.self.inside.cell.value.items c.self.inside.from (c.self.inside.count - 1) c.self.inside.count (omega arith)) (grind (arith, common_steps, row_steps))
