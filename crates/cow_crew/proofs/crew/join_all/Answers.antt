use Rattle.std.proofs.Common.{arith, ap, ◌∙◌}
use Rattle.cow_crew.specs.Passes.{Progress, IsOver}
use Rattle.cow_crew.proofs.Passing.{pop_all, pop_sum, joined_ended}
use Rattle.cow_crew.proofs.crew.join_all.Goals as goal

pub loop-pass-init : goal.loop-pass-init
loop-pass-init g c =
    let both = pop_all (IsOver c.args.board.now) c.args.passes.items c.pop.new.self.items c.pop.result c.in-Some.whole c.pop.ensures.items c.in-Some.is c.requires.over in
    let sum = pop_sum (λ (p : Progress g.row.J.Denot). p.parts) c.args.passes.items c.pop.new.self.items c.pop.result c.in-Some.whole c.pop.ensures.items c.in-Some.is in
    (both.1, both.0, omega (arith, sum))

pub join-requires-clause-other : goal.join-requires-clause-other
join-requires-clause-other g c κs within =
    let both = pop_all (IsOver c.args.board.now) c.loop-pass.passes.items c.pop-in-loop-pass.new.self.items c.pop-in-loop-pass.result c.in-Some-pop.pass c.pop-in-loop-pass.ensures.items c.in-Some-pop.is c.loop-pass.invariant.1 in
    both.1.0

pub join-requires-clause-over : goal.join-requires-clause-over
join-requires-clause-over g c κs within =
    let both = pop_all (IsOver c.args.board.now) c.loop-pass.passes.items c.pop-in-loop-pass.new.self.items c.pop-in-loop-pass.result c.in-Some-pop.pass c.pop-in-loop-pass.ensures.items c.in-Some-pop.is c.loop-pass.invariant.1 in
    both.1.1

pub loop-pass-preserved : goal.loop-pass-preserved
loop-pass-preserved g c =
    let both = pop_all (IsOver c.args.board.now) c.loop-pass.passes.items c.pop-in-loop-pass.new.self.items c.pop-in-loop-pass.result c.in-Some-pop.pass c.pop-in-loop-pass.ensures.items c.in-Some-pop.is c.loop-pass.invariant.1 in
    let sum = pop_sum (λ (p : Progress g.row.J.Denot). p.parts) c.loop-pass.passes.items c.pop-in-loop-pass.new.self.items c.pop-in-loop-pass.result c.in-Some-pop.pass c.pop-in-loop-pass.ensures.items c.in-Some-pop.is in
    let now = c.join.ensures in
    let parts = ap (λ t. t.parts) now in
    let was = c.loop-pass.invariant.0 in
    let old = c.loop-pass.invariant.2 in (
      ((ap (λ t. t.table) now ∙ was.0.0, ap (λ t. t.jobs) now ∙ was.0.1), joined_ended c.loop-pass.whole c.in-Some-pop.pass c.join.new.pass now was.1),
      both.0,
      omega (arith, sum, parts, old),
    )
