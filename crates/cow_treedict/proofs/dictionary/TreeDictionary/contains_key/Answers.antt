use Rattle.std.proofs.Common.{sym, ap, ◌∙◌}
use Rattle.std.specs.Prelude.{is_some}
use Rattle.cow_treedict.proofs.Trees.{has-value, some-map}
use Rattle.cow_treedict.proofs.dictionary.TreeDictionary.contains_key.Goals as goal

pub returns : goal.returns
returns g c = c.is_some.ensures ∙ sym (some-map (λ v. g.V.Item.plain v.now) c.get.result) ∙ ap is_some c.get.ensures.value ∙ has-value (g.E.Equivalent.sought c.args.k.now) c.args.self.now.value
