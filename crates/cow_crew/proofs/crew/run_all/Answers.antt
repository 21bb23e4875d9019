use Rattle.std.proofs.Common.{rules, arith, ◌≡◌, ap, length, vec_len}
use Rattle.std.proofs.lemmas.Grind.{common_steps}
use Rattle.cow_crew.proofs.Order.{sums_in_order, all_in_order}
use Rattle.cow_crew.specs.Passes.{Progress, IsOver, Works}
use Rattle.cow_crew.proofs.crew.run_all.Goals as goal

pub join_all-whole-requires-clause-over : goal.join_all-whole-requires-clause-over
join_all-whole-requires-clause-over g c κs within =
    let b = c.in_ok-board.board in
    all_in_order {gives = Works b} (IsOver b) (λ j x s. s.0) c.in_ok-passes.passes.items c.in_ok-passes-2.passes.items c.in_ok-passes-2.ensures

pub close-requires-clause-parts : goal.close-requires-clause-parts
close-requires-clause-parts g c κs within =
    let parts = λ (t : Progress g.row.J.Denot). t.parts in
    let same = sums_in_order {gives = Works c.in_ok-board.board} parts parts (λ j x s. s.1) c.in_ok-passes.passes.items c.in_ok-passes-2.passes.items c.in_ok-passes-2.ensures in
    let all = ap (λ t. t.parts) c.in_ok-board.ensures.first in
    let long = ap length c.in_ok-board.ensures.jobs in
    let len : vec_len c.args.jobs ≡ length c.args.jobs.items = first_of (search rules, grind (arith, common_steps)) in
    omega (arith, same, all, long, len, c.join_all-whole.ensures.parts, c.in_ok-passes.ensures.parts)
