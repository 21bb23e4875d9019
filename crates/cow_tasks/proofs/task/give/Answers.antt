use Rattle.std.proofs.Common.{arith, ap, ◌∙◌}
use Rattle.std.proofs.lemmas.Result.{err_from_is_err_and}
use Rattle.cow_tasks.proofs.Giving.{given, given-err}
use Rattle.cow_tasks.proofs.task.give.Goals as goal

pub returns-in_err-entry : goal.returns-in_err-entry
returns-in_err-entry g c =
    let refused = err_from_is_err_and c.from_residual.result c.from_residual.ensures.1 in
    rw refused.1 (given-err g.V.Shown.counted c.args.name.now c.args.to.now c.args.env.now c.take.new.self c.args.gives.now.items c.args.text.now.items c.args.h.now c.rename.new.h c.in-Some.entry c.in-Some.ensures.some refused.0 c.in_err-entry.ensures.copied c.in_err-entry.ensures.falls)

pub returns-in-Ok : goal.returns-in-Ok
returns-in-Ok g c =
    rw (c.in-Ok.ensures.items, c.in_ok-entry.ensures.ok, c.in_ok-entry.ensures.spent) (given g.V.Shown.counted c.args.name.now c.args.to.now c.args.env.now c.take.new.self c.args.gives.now.items c.args.text.now.items c.args.h.now c.args.h.now c.in-Some.entry c.in-Some.ensures.some)

pub returns-in-Err : goal.returns-in-Err
returns-in-Err g c =
    let spent = c.in_ok-entry.ensures.spent in
    let back = c.end.ensures.spare in
    let spare = ap (λ x. x.spare) spent in
    rw c.in-Err.ensures.items (given-err g.V.Shown.counted c.args.name.now c.args.to.now c.args.env.now c.take.new.self c.args.gives.now.items c.args.text.now.items c.args.h.now c.end.new.h c.in-Some.entry c.in-Some.ensures.some _ (c.end.ensures.copied ∙ ap (λ x. x.copied) spent) (omega (arith, back, spare)))
