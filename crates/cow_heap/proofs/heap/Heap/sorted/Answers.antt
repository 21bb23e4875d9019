use Rattle.std.proofs.Common.{◌≡◌, ◌∙◌, ap, map, rules}
use Rattle.std.proofs.lemmas.List.Sorted.{answers_always}
use Rattle.cow_model.proofs.Ascending.{by_f}
use Rattle.cow_heap.proofs.Sorted.{shown, shown_ranks, shown_ascends, shown_settled}
use Rattle.cow_heap.proofs.heap.Heap.sorted.Goals as goal

pub returns-clause-value : goal.returns-clause-value
returns-clause-value g c =
    let plain = g.T.Item.plain in
    let row = c.self.inside.cell.value in
    let all : map (λ x. x.now) c.in_ok-items.items.items ≡ row.items = c.in_ok-items.ensures ∙ c.as_slice.ensures ∙ ap (λ r. r.items) c.get.ensures in
    let sort = c.sort_unstable_by.ensures in
    rw (← c.self.view_is) (shown_ascends (λ x. x.now) plain c.in_ok-items.items.items c.sort_unstable_by.new.self.items row.items all sort.permutation
    (sort.sorted (by_f (shown (λ x. x.now) plain)) (shown_ranks (λ x. x.now) plain) (answers_always _ _ _ (λ f a r f' k. search rules))))

pub returns-clause-settled : goal.returns-clause-settled
returns-clause-settled g c =
    let row = c.self.inside.cell.value in
    let all : map (λ x. x.now) c.in_ok-items.items.items ≡ row.items = c.in_ok-items.ensures ∙ c.as_slice.ensures ∙ ap (λ r. r.items) c.get.ensures in
    shown_settled (λ x. x.now) g.T.Item.plain g.T.Item.IsSettled c.in_ok-items.items.items c.sort_unstable_by.new.self.items row.items all c.sort_unstable_by.ensures.permutation c.self.invariant.0.sound.settled
