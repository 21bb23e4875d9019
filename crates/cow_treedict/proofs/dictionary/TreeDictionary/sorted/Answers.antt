use Rattle.std.proofs.Common.{rules}
use Rattle.std.proofs.lemmas.List.Sorted.{answers_always}
use Rattle.cow_champ.specs.Node.{seen_pair}
use Rattle.cow_set.proofs.Sorted.{before, shown-ranks}
use Rattle.cow_treedict.proofs.Trees.{seen-sorted}
use Rattle.cow_treedict.proofs.dictionary.TreeDictionary.sorted.Goals as goal

pub returns : goal.returns
returns g c =
    let plain = g.K.Item.plain in
    let sort = c.sort_unstable_by.ensures in
    seen-sorted (seen_pair plain g.V.Item.plain) c.in_ok-pairs.pairs.items c.sort_unstable_by.new.self.items c.args.self.now.value c.in_ok-pairs.ensures.value c.references.ensures.distinct
    sort.permutation (sort.sorted (before (λ p. plain p.0.now)) (shown-ranks (λ p. p.0.now) plain) (answers_always _ _ _ (λ f a r f' k. search rules)))
