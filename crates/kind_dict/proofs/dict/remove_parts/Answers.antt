use Rattle.std.proofs.Common.{arith}
use Rattle.std.proofs.lemmas.Grind.{common_steps}
use Rattle.kind_dict.proofs.Dicts.{parts-remove-absent, parts-remove-there}
use Rattle.kind_dict.proofs.dict.remove_parts.Goals as goal

pub returns-in-Some : goal.returns-in-Some
returns-in-Some g c =
    parts-remove-there c.args.key.now (g.T.Item.plain c.in-Some.field-0.now) c.args.d.now.value c.get.ensures.distinct (grind (arith, common_steps, c.in-Some.ensures.value, c.by.ensures))

pub returns-in-None : goal.returns-in-None
returns-in-None g c =
    parts-remove-absent c.args.key.now c.args.d.now.value c.get.ensures.distinct (grind (arith, common_steps, c.in-None.ensures.value, c.by.ensures))
