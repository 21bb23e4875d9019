use Rattle.std.proofs.Common.{◌≡◌, ◌∙◌, ap, map, rules}
use Rattle.std.specs.List.{zip}
use Rattle.std.proofs.lemmas.List.Sorted.{answers_always}
use Rattle.cow_set.proofs.Sorted.{before, shown-ranks}
use Rattle.cow_dict.proofs.Calls.{distinct}
use Rattle.cow_dict.proofs.Questions.{shown-sorted}
use Rattle.cow_dict.proofs.dictionary.Dictionary.sorted.Goals as goal

pub returns : goal.returns
returns g c =
    let plain = g.K.Item.plain in
    let worth = g.V.Item.plain in
    let shown = c.self.inside.cell.value in
    let both : map (λ p. (p.0.now, p.1.now)) c.in_ok-pairs.pairs.items ≡ zip shown.members.keys.items shown.values.items = c.in_ok-pairs.ensures
    ∙ ap (λ l. zip l c.values.result.now) (c.keys.ensures ∙ ap (λ s. s.members.keys.items) c.get-shown.ensures)
    ∙ ap (λ l. zip shown.members.keys.items l) (c.values.ensures ∙ ap (λ s. s.values.items) c.get-shown.ensures) in
    let apart = distinct plain worth shown.members.keys.items shown.values.items c.self.invariant.0.sound.apart in
    let sort = c.sort_unstable_by.ensures in
    rw (← c.self.view_is) (shown-sorted (λ p. p.0.now) (λ p. p.1.now) plain worth c.in_ok-pairs.pairs.items c.sort_unstable_by.new.self.items shown.members.keys.items shown.values.items
    both c.self.invariant.0.count apart sort.permutation (sort.sorted (before (λ p. plain p.0.now)) (shown-ranks (λ p. p.0.now) plain) (answers_always _ _ _ (λ f a r f' k. search rules))))
