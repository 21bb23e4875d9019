use Rattle.std.proofs.Common.{ap, ◌∙◌}
use Rattle.cow_dict.specs.Dictionaries.{is_value}
use Rattle.cow_dict.proofs.Questions.{told}
use Rattle.cow_treedict.proofs.dictionary.TreeDictionary.has_pair.Goals as goal

pub returns-in-Some : goal.returns-in-Some
returns-in-Some g c =
    let worth = g.V.Item.plain in
    told c.same.result (worth c.args.v.now) (worth c.in-Some.w.now) c.same.ensures.0 c.same.ensures.1 ∙ ap (is_value (worth c.args.v.now)) c.in-Some.ensures.value
