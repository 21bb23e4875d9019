use Rattle.std.proofs.Common.{arith}
use Rattle.std.proofs.lemmas.Grind.{common_steps}
use Rattle.kind_set.proofs.Sets.{parts-insert}
use Rattle.kind_set.proofs.set.insert_parts.Goals as goal

pub returns : goal.returns
returns g c = parts-insert _ c.args.atom.now c.args.s.now.value (grind (arith, common_steps, c.contains.ensures, c.by.ensures))
