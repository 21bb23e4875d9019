use Rattle.std.proofs.Common.{sym, arith, true, false}
use Rattle.std.proofs.lemmas.Grind.{common_steps}
use Rattle.kind_set.proofs.Sets.{is-found, not-found, parts-remove}
use Rattle.kind_set.proofs.set.remove_parts.Goals as goal

pub returns-in-Some : goal.returns-in-Some
returns-in-Some g c =
    let there = is-found c.args.x.now (g.T.Item.plain c.in-Some.field-0.now) c.args.s.now.value (grind (arith, common_steps, c.in-Some.ensures.value, c.by.ensures)) in
    parts-remove true c.args.x.now c.args.s.now.value c.find.ensures.distinct (sym there)

pub returns-in-None : goal.returns-in-None
returns-in-None g c =
    let none = not-found c.args.x.now c.args.s.now.value (grind (arith, common_steps, c.in-None.ensures.value, c.by.ensures)) in
    parts-remove false c.args.x.now c.args.s.now.value c.find.ensures.distinct (sym none)
