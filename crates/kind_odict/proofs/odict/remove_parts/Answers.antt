use Rattle.std.proofs.Common.{arith}
use Rattle.std.proofs.lemmas.Grind.{common_steps}
use Rattle.kind_odict.proofs.OrderedDicts.{parts-absent, parts-gone}
use Rattle.kind_odict.proofs.odict.remove_parts.Goals as goal

pub returns-in-Some : goal.returns-in-Some
returns-in-Some g c = parts-gone c.args.key.now c.args.d.now.value c.in-Some.field-0 (grind (arith, common_steps, c.in-Some.ensures, c.by.ensures))

pub returns-in-None : goal.returns-in-None
returns-in-None g c = parts-absent c.args.key.now c.args.d.now.value (grind (arith, common_steps, c.in-None.ensures, c.by.ensures))
