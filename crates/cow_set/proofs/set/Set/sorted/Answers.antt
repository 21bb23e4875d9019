use Rattle.std.proofs.Common.{◌≡◌, ◌∙◌, ap, map, rules}
use Rattle.std.proofs.lemmas.List.Sorted.{answers_always}
use Rattle.cow_set.proofs.Sorted.{before, shown, shown-ranks, shown-ascends}
use Rattle.cow_set.proofs.set.Set.sorted.Goals as goal

pub returns : goal.returns
returns g c =
    let plain = g.K.Item.plain in
    let members = c.self.inside.cell.value in
    let all : map (λ k. k.now) c.in_ok-keys.keys.items ≡ members.keys.items = c.in_ok-keys.ensures ∙ c.as_slice.ensures ∙ ap (λ m. m.keys.items) c.get.ensures in
    let sort = c.sort_unstable_by.ensures in
    rw (← c.self.view_is) (shown-ascends (λ k. k.now) plain c.in_ok-keys.keys.items c.sort_unstable_by.new.self.items members.keys.items all sort.permutation
    (sort.sorted (before (shown (λ k. k.now) plain)) (shown-ranks (λ k. k.now) plain) (answers_always _ _ _ (λ f a r f' k. search rules))))
