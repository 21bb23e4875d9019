use Rattle.std.proofs.Common.{rules, ◌∙◌}
use Rattle.std.proofs.lemmas.List.Sorted.{answers_always}
use Rattle.cow_set.proofs.Sorted.{before, shown-ranks, sorted-ascends}
use Rattle.cow_treeset.proofs.set.TreeSet.sorted.Goals as goal

pub returns : goal.returns
returns g c =
    let plain = g.K.Item.plain in
    let sort = c.sort_unstable_by.ensures in
    sorted-ascends (λ k. plain k.now) c.in_ok-keys.keys.items c.sort_unstable_by.new.self.items sort.permutation
    (sort.sorted (before (λ k. plain k.now)) (shown-ranks (λ k. k.now) plain) (answers_always _ _ _ (λ f a r f' k. search rules))) ∙ c.in_ok-keys.ensures.value
