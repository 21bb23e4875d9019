use Rattle.std.proofs.Common.{ap, sym, ◌∙◌}
use Rattle.cow_model.specs.declared.outcome.Environment.{Environment}
use Rattle.cow_eval.proofs.BareNames.{given-bare}
use Rattle.cow_eval.proofs.Places.{give-there}
use Rattle.cow_eval.proofs.env.Env.give.Goals as goal

pub returns-in-Some-clause-ok : goal.returns-in-Some-clause-ok
returns-in-Some-clause-ok g c =
    let found = rw c.deref.ensures.value at c.find.ensures in
    let given = give-there c.args.name.now c.self.inside.names.items c.in-Some.at c.index_mut.result.now (sym found ∙ c.in-Some.is) c.index_mut.ensures.value (g.V.Shown.seen c.args.value) c.args.alone in
    rw (c.put_value.ensures.entry, ← c.self.view_is) (ap {B = Environment} (λ names. record { names = names; room = c.self.inside.room; allowed = c.self.inside.allowed }) given)

pub returns-in-Some-clause-bare : goal.returns-in-Some-clause-bare
returns-in-Some-clause-bare g c = λ bare none.
    let found = rw c.deref.ensures.value at c.find.ensures in
    let names = rw (← c.self.view_is) at bare in
    rw (← c.self.view_is) (given-bare g.V.Shown.counted c.args.name.now c.self.inside.names.items c.in-Some.at c.index_mut.result.now (sym found ∙ c.in-Some.is) c.index_mut.ensures.value names c.put_value.new.self c.args.h.now c.put_value.new.h (rw c.put_value.ensures.entry none) c.put_value.ensures.bare)
