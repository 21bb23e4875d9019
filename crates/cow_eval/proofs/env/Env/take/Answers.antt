use Rattle.std.proofs.Common.{sym, ◌∙◌}
use Rattle.cow_model.proofs.ListSteps.{All-remove}
use Rattle.cow_eval.specs.Entries.{IsKept}
use Rattle.cow_eval.specs.Envs.{SeenEnv}
use Rattle.cow_eval.proofs.Handing.{parted}
use Rattle.cow_eval.proofs.env.Env.take.Goals as goal

pub returns-clause-some : goal.returns-clause-some
returns-clause-some g c =
    let before : SeenEnv = record { names = c.self.inside.names.items; room = c.self.inside.room; allowed = c.self.inside.allowed } in
    let found = rw c.deref.ensures.value at c.find.ensures in
    rw (c.remove.ensures.items, ← c.self.view_is) (parted g.V.Shown.counted c.args.name.now before c.in-Some.at c.remove.result (sym found ∙ c.in-Some.is) c.remove.ensures.value)

pub invariant_of-self : goal.invariant_of-self
invariant_of-self g c = rw c.remove.ensures.items (All-remove IsKept c.self.inside.names.items c.in-Some.at c.self.invariant)
