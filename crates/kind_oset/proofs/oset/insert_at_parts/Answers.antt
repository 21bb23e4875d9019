use Rattle.std.proofs.Common.{arith}
use Rattle.std.proofs.lemmas.Grind.{common_steps}
use Rattle.kind_oset.proofs.OrderedSets.{parts-place}
use Rattle.kind_oset.proofs.oset.insert_at_parts.Goals as goal

pub returns-in-Some : goal.returns-in-Some
returns-in-Some g c =
    parts-place _ c.args.i c.args.atom.now c.args.s.now.value c.in-Some.field-0 (grind (arith, common_steps, c.in-Some.ensures.place)) (grind (arith, common_steps, c.in-Some.ensures.within))
    (grind (arith, common_steps, c.contains.ensures, c.by.ensures))
