use Rattle.std.proofs.Common.{arith}
use Rattle.std.proofs.lemmas.Grind.{common_steps}
use Rattle.kind_set.proofs.Sets.{is-found, not-found, removes, removes-none}
use Rattle.kind_set.proofs.set.remove.Goals as goal

pub returns-in-None-clause-does : goal.returns-in-None-clause-does
returns-in-None-clause-does g c =
    let x = c.args.x.now in
    let v = c.args.s.now.value in
    let none = removes-none x v (not-found x v (grind (arith, common_steps, c.in-None.ensures.value))) in
    grind (arith, common_steps, none)

pub returns-in-Ok-Some-clause-does : goal.returns-in-Ok-Some-clause-does
returns-in-Ok-Some-clause-does g c =
    let x = c.args.x.now in
    let v = c.args.s.now.value in
    let there = is-found x (g.T.Item.plain c.in-Some.member.now) v (grind (arith, common_steps, c.in-Some.ensures.value)) in
    let gone = removes x v c.find.ensures.distinct there in
    grind (arith, common_steps, gone)
