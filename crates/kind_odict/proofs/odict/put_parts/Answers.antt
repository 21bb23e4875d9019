use Rattle.std.proofs.Common.{arith, refl}
use Rattle.std.proofs.lemmas.Grind.{common_steps}
use Rattle.cow_elements.specs.Shared.{pair_of}
use Rattle.kind_odict.proofs.OrderedDicts.{parts-put-absent, parts-put-there}
use Rattle.kind_odict.proofs.odict.put_parts.Goals as goal

pub returns-in-Some : goal.returns-in-Some
returns-in-Some g c =
    parts-put-there _ c.is_literal.result (pair_of c.args.key.now c.args.value.now) (g.T.Item.plain c.in-Some.old.now) c.args.d.now.value
    (grind (arith, common_steps, c.in-Some.ensures.value, c.by.ensures)) c.is_literal.ensures refl

pub returns-in-None : goal.returns-in-None
returns-in-None g c =
    parts-put-absent (pair_of c.args.key.now c.args.value.now) c.args.d.now.value (grind (arith, common_steps, c.in-None.ensures.value, c.by.ensures))
