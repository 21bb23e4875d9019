use Rattle.std.proofs.Common.{List, false, sym, ap, ◌∙◌}
use Rattle.cow_model.specs.Flat.{Flat, Becomes}
use Rattle.cow_model.specs.Pairs.{in_order, merge}
use Rattle.cow_model.specs.declared.value.Pair.{Pair}
use Rattle.cow_members.specs.Ascents.{Ascends}
use Rattle.cow_dict.specs.Dictionaries.{takes}
use Rattle.cow_dict.specs.Storages.{keys}
use Rattle.cow_treedict.proofs.Joins.{merge-turned}
use Rattle.cow_treedict.proofs.Makes.{IfOk_both}
use Rattle.cow_treedict.proofs.dictionary.TreeDictionary.merged.Goals as goal

pub returns-in-Take-clause-ok : goal.returns-in-Take-clause-ok
returns-in-Take-clause-ok g c =
    let v = c.args.self.now.value in
    let w = c.args.other.now.value in
    IfOk_both (λ (t : Flat (List Pair)). Becomes (merge in_order false w v) t) (λ (t : Flat (List Pair)). Ascends (keys w) × Ascends (keys v)) (λ (t : Flat (List Pair)). Becomes (merge in_order (takes c.args.rule) v w) t)
    c.joined-in-Take.result (λ t b a. record { value = b.value ∙ merge-turned v w a.1 a.0 ∙ ap (λ r. merge in_order (takes r) v w) (sym c.in-Take.is); alone = b.alone })
    c.joined-in-Take.ensures.ok c.joined-in-Take.ensures.distinct
