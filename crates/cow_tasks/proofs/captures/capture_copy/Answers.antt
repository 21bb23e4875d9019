use Rattle.std.proofs.Common.{false}
use Rattle.std.proofs.lemmas.Result.{err_from_is_err_and}
use Rattle.cow_tasks.proofs.Capturing.{copies, nothing-done}
use Rattle.cow_tasks.proofs.captures.capture_copy.Goals as goal

pub returns-in-Some : goal.returns-in-Some
returns-in-Some g c = copies g.V.Shown.counted c.args.name.now c.args.parent.now c.lend.new.self c.args.task.now c.accept.new.self c.args.text.now.items c.in-Some.entry c.args.h.now c.lend.new.h c.accept.new.h c.accept.result
    (record { ok = c.accept.ensures.ok; allowed = c.accept.ensures.allowed; copied = c.accept.ensures.copied; falls = c.accept.ensures.falls; bare = c.accept.ensures.bare })
    (rw c.in-Some.is at c.in_ok-entry.ensures.some) (rw c.in-Some.is at c.in_ok-entry.ensures.spent) c.requires.spare

pub returns-in_err-entry : goal.returns-in_err-entry
returns-in_err-entry g c =
    let refused = err_from_is_err_and c.from_residual.result c.from_residual.ensures.1 in
    let same = c.in_err-entry.ensures.err in
    rw (refused.1, same.0, same.1) (nothing-done g.V.Shown.counted false c.args.name.now c.args.parent.now c.args.task.now c.args.text.now.items c.args.h.now refused.0)
