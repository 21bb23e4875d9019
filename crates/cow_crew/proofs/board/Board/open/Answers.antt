use Rattle.std.proofs.Common.{rules, arith, ap, sym, subst, ◌∙◌, ◌<◌, ◌≤◌, length, List, ◌∷◌, []}
use Rattle.std.proofs.lemmas.Grind.{common_steps}
use Rattle.atomic_table.specs.Table.{opening}
use Rattle.cow_crew.specs.Rule.{IsKept, opened}
use Rattle.cow_crew.proofs.Places.{length_waits, waits_at}
use Rattle.cow_crew.proofs.Steps.{begins}
use Rattle.cow_crew.proofs.board.Board.open.Goals as goal

pub new-requires : goal.new-requires
new-requires g c =
    let h = c.in_ok-places.ensures in
    let P : List g.row.J.Denot → Type 0 = λ js. IsKept g.J.Job.gives js (opening (0 ∷ []) c.in_ok-places.places.items (opened js)) in
    subst P (sym (ap (λ v. v.items) c.of-about.ensures))
    (begins g.J.Job.gives c.args.jobs.items c.in_ok-places.places.items (first_of (search rules, grind (arith, common_steps))) (length_waits _ _ h) (waits_at _ _ h))

pub invariant_of-result : goal.invariant_of-result
invariant_of-result g c =
    let ok = c.in-Ok.ensures.ok in
    let items = ap (λ s. s.value.items) ok.5 ∙ ap (λ v. v.items) c.of-about.ensures in
    let some_job : 0 < length c.args.jobs.items = first_of (search rules, grind (arith, common_steps)) in
    let few : length c.args.jobs.items ≤ 65536 = first_of (search rules, grind (arith, common_steps)) in
    let long = ap length items in
    (ok.0, ok.1 ∙ length_waits _ _ c.in_ok-places.ensures ∙ sym long, omega (arith, long, some_job), omega (arith, long, few))
