use Rattle.std.proofs.Common.{arith}
use Rattle.std.proofs.lemmas.Grind.{common_steps}
use Rattle.kind_oset.proofs.OrderedSets.{parts-absent, parts-gone}
use Rattle.kind_oset.proofs.oset.remove_parts.Goals as goal

pub returns-in-Some : goal.returns-in-Some
returns-in-Some g c = parts-gone c.args.x.now c.args.s.now.value c.in-Some.field-0 (grind (arith, common_steps, c.in-Some.ensures, c.by.ensures))

pub returns-in-None : goal.returns-in-None
returns-in-None g c = parts-absent c.args.x.now c.args.s.now.value (grind (arith, common_steps, c.in-None.ensures, c.by.ensures))
