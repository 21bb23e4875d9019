use Rattle.std.proofs.Common.{◌≡◌, length, slice_get, Some, arith, ap, sym, ◌∙◌}
use Rattle.std.proofs.lemmas.Grind.{common_steps}
use Rattle.cow_row.proofs.Runs.{length-run-plain, get-run-plain, take-more}
use Rattle.cow_array.proofs.slice.ArraySlice.equals.Goals as goal

pub returns-then-self-other : goal.returns-then-self-other
returns-then-self-other g c =
    let left : length c.args.self.now.value.items ≡ c.self.inside.count = rw (← c.self.view_is) (length-run-plain g.T.Item.plain c.self.inside.cell.value.items c.self.inside.from c.self.inside.count c.self.invariant.1) in
    let right : length c.args.other.now.value.items ≡ c.other.inside.count = rw (← c.other.view_is) (length-run-plain g.T.Item.plain c.other.inside.cell.value.items c.other.inside.from c.other.inside.count c.other.invariant.1) in
    (λ f. cc, λ e. absurd (c.if-self-other.true (sym left ∙ ap length e ∙ right)))

pub returns-then-not-same : goal.returns-then-not-same
returns-then-not-same g c =
    let left : slice_get c.args.self.now.value.items c.loop-i.i ≡ Some (g.T.Item.plain c.get.result.now) = rw (← c.self.view_is) (get-run-plain g.T.Item.plain c.self.inside.cell.value.items c.self.inside.from c.self.inside.count c.loop-i.i c.get.result.now (omega arith) (rw c.get-left.ensures at c.get.ensures)) in
    let right : slice_get c.args.other.now.value.items c.loop-i.i ≡ Some (g.T.Item.plain c.get-in-loop-i.result.now) = rw (← c.other.view_is) (get-run-plain g.T.Item.plain c.other.inside.cell.value.items c.other.inside.from c.other.inside.count c.loop-i.i c.get-in-loop-i.result.now (omega arith) (rw c.get-right.ensures at c.get-in-loop-i.ensures)) in
    grind (arith, common_steps, left, right, c.same.ensures.1)

pub loop-i-preserved : goal.loop-i-preserved
loop-i-preserved g c =
    let left : slice_get c.args.self.now.value.items c.loop-i.i ≡ Some (g.T.Item.plain c.get.result.now) = rw (← c.self.view_is) (get-run-plain g.T.Item.plain c.self.inside.cell.value.items c.self.inside.from c.self.inside.count c.loop-i.i c.get.result.now (omega arith) (rw c.get-left.ensures at c.get.ensures)) in
    let right : slice_get c.args.other.now.value.items c.loop-i.i ≡ Some (g.T.Item.plain c.get-in-loop-i.result.now) = rw (← c.other.view_is) (get-run-plain g.T.Item.plain c.other.inside.cell.value.items c.other.inside.from c.other.inside.count c.loop-i.i c.get-in-loop-i.result.now (omega arith) (rw c.get-right.ensures at c.get-in-loop-i.ensures)) in
    let more-left = take-more c.args.self.now.value.items c.loop-i.i (g.T.Item.plain c.get.result.now) left in
    let more-right = take-more c.args.other.now.value.items c.loop-i.i (g.T.Item.plain c.get-in-loop-i.result.now) right in
    rw (more-left, more-right) (grind (arith, common_steps, c.same.ensures.0))
