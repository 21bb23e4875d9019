use Rattle.std.proofs.Common.{ap, sym, ◌∙◌}
use Rattle.cow_model.specs.declared.outcome.Environment.{Environment}
use Rattle.cow_eval.proofs.BareNames.{given-bare}
use Rattle.cow_eval.proofs.Places.{there, put-there}
use Rattle.cow_eval.proofs.env.Env.accept.Goals as goal

pub returns-in-Some-clause-ok : goal.returns-in-Some-clause-ok
returns-in-Some-clause-ok g c =
    let found = rw (c.deref.ensures.value, c.name.ensures) at c.find.ensures in
    let place = sym found ∙ c.in-Some.is in
    let stands = there c.args.entry.name c.self.inside.names.items c.in-Some.at c.index_mut.result.now place c.index_mut.ensures.value in
    let given = put-there c.args.entry.name c.self.inside.names.items c.in-Some.at c.index_mut.result.now place c.index_mut.ensures.value c.args.entry (sym stands.name_is) in
    rw (c.replace.ensures.after, ← c.self.view_is) (ap {B = Environment} (λ names. record { names = names; room = c.self.inside.room; allowed = c.self.inside.allowed }) given)

pub returns-in-Some-clause-bare : goal.returns-in-Some-clause-bare
returns-in-Some-clause-bare g c = λ bare none.
    let found = rw (c.deref.ensures.value, c.name.ensures) at c.find.ensures in
    let names = rw (← c.self.view_is) at bare in
    let ended = rw c.replace.ensures.value at c.end.ensures.bare in
    rw (c.replace.ensures.after, ← c.self.view_is) (given-bare g.V.Shown.counted c.args.entry.name c.self.inside.names.items c.in-Some.at c.index_mut.result.now (sym found ∙ c.in-Some.is) c.index_mut.ensures.value names c.args.entry c.args.h.now c.end.new.h none ended)
