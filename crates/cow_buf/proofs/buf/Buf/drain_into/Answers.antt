use Rattle.std.proofs.Common.{arith, ◌∙◌}
use Rattle.cow_buf.proofs.Handed.{left-none, came-all}
use Rattle.cow_buf.proofs.buf.Buf.drain_into.Goals as goal

pub returns-clause-left : goal.returns-clause-left
returns-clause-left g c =
    let run = rw (← c.self.view_is) at c.requires.run in let rest = rw (← c.self.view_is) at c.requires.rest in
    rw (← c.self.view_is) (c.hand_over.ensures.left ∙ left-none c.self.inside.memory.places c.args.n (omega (arith, run.0)) rest)

pub returns-clause-came : goal.returns-clause-came
returns-clause-came g c =
    let run = rw (← c.self.view_is) at c.requires.run in let rest = rw (← c.self.view_is) at c.requires.rest in
    let longer = rw (← c.self.view_is, ← c.other.view_is) at c.requires.longer in let empty = rw (← c.other.view_is) at c.requires.empty in
    rw (← c.self.view_is, ← c.other.view_is) (c.hand_over.ensures.came ∙ came-all c.self.inside.memory.places c.other.inside.memory.places c.args.n (omega (arith, run.0)) rest longer empty)
