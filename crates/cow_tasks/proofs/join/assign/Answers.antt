use Rattle.std.proofs.Common.{sym}
use Rattle.cow_tasks.proofs.Joining.{placed}
use Rattle.cow_tasks.proofs.join.assign.Goals as goal

pub returns-then-has_place : goal.returns-then-has_place
returns-then-has_place g c =
    let place = rw c.name.ensures at c.if-has_place.ensures in
    placed g.V.Shown.counted c.args.entry c.args.env.now c.accept.new.self c.args.text.now.items c.args.h.now c.accept.new.h c.accept.result (sym place)
    (record { ok = c.accept.ensures.ok; allowed = c.accept.ensures.allowed; copied = c.accept.ensures.copied; falls = c.accept.ensures.falls; bare = c.accept.ensures.bare })
