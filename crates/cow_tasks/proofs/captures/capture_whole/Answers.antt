use Rattle.std.proofs.Common.{refl}
use Rattle.cow_tasks.proofs.Capturing.{moves}
use Rattle.cow_tasks.proofs.captures.capture_whole.Goals as goal

pub returns-in-Some : goal.returns-in-Some
returns-in-Some g c = moves g.V.Shown.counted c.args.name.now c.args.parent.now c.take.new.self c.args.task.now c.accept.new.self c.args.text.now.items c.in-Some.entry c.args.h.now c.args.h.now c.accept.new.h c.accept.result
    (record { ok = c.accept.ensures.ok; allowed = c.accept.ensures.allowed; copied = c.accept.ensures.copied; falls = c.accept.ensures.falls; bare = c.accept.ensures.bare })
    c.in-Some.ensures.some refl
