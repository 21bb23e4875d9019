use Rattle.std.proofs.Common.{arith, sym, ◌∙◌}
use Rattle.cow_model.specs.declared.statement.Statement.{out-Statement}
use Rattle.cow_eval.specs.Entries.{SeenEntry}
use Rattle.cow_eval.proofs.Itself.{itself-refused, itself-kept, itself-costs}
use Rattle.cow_eval.proofs.entry.Entry.change_by_itself.Goals as goal

pub returns-in-Some-clause-does : goal.returns-in-Some-clause-does
returns-in-Some-clause-does g c =
    let s = out-Statement c.args.statement.now in
    let e : SeenEntry = record { name = c.self.inside.name; seen = g.V.Shown.seen c.self.inside.value; flag = c.self.inside.alone } in
    rw (← c.self.view_is) (itself-refused s e (sym c.in-Some.is ∙ c.refusal_by.ensures))

pub invariant_of-self : goal.invariant_of-self
invariant_of-self g c =
    let s = out-Statement c.args.statement.now in
    let e : SeenEntry = record { name = c.self.inside.name; seen = g.V.Shown.seen c.self.inside.value; flag = c.self.inside.alone } in
    let does = rw (c.copy-other.ensures.copy, c.copy-other.ensures.same) at c.change_by-result.ensures.does in
    itself-kept s e c.self.invariant (g.V.Shown.seen c.change_by-result.new.self) c.change_by-result.result does

pub returns-clause-costs : goal.returns-clause-costs
returns-clause-costs g c =
    let s = out-Statement c.args.statement.now in
    let e : SeenEntry = record { name = c.self.inside.name; seen = g.V.Shown.seen c.self.inside.value; flag = c.self.inside.alone } in
    let does = rw (c.copy-other.ensures.copy, c.copy-other.ensures.same) at c.change_by-result.ensures.does in
    let costs = rw (c.copy-other.ensures.copy, c.copy-other.ensures.same, c.copy-other.ensures.spent) at c.change_by-result.ensures.paid in
    let ended = rw c.copy-other.ensures.copy at c.end.ensures.moved in
    rw (← c.self.view_is) (itself-costs s e c.self.invariant (g.V.Shown.seen c.change_by-result.new.self) c.change_by-result.result does g.V.Shown.counted c.args.h.now c.change_by-result.new.h c.end.new.h costs ended c.end.ensures.never_less (omega (arith, c.requires.spare)))

pub returns-clause-kept : goal.returns-clause-kept
returns-clause-kept g c =
    let s = out-Statement c.args.statement.now in
    let e : SeenEntry = record { name = c.self.inside.name; seen = g.V.Shown.seen c.self.inside.value; flag = c.self.inside.alone } in
    let does = rw (c.copy-other.ensures.copy, c.copy-other.ensures.same) at c.change_by-result.ensures.does in
    itself-kept s e c.self.invariant (g.V.Shown.seen c.change_by-result.new.self) c.change_by-result.result does
