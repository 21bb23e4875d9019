use Rattle.std.proofs.Common.{arith}
use Rattle.cow_model.specs.declared.statement.Statement.{out-Statement}
use Rattle.cow_value.specs.Seen.{literals_of}
use Rattle.cow_model.specs.Turns.{turn_of}
use Rattle.cow_model.proofs.Costs.{cost-kept}
use Rattle.cow_model.proofs.Counts.{turn-small}
use Rattle.cow_model.proofs.Bare.{turn-bare, after-call}
use Rattle.cow_eval.specs.Entries.{SeenEntry}
use Rattle.cow_eval.proofs.Flags.{alone-kept, told-kept, alone-changes, told-changes, entry-costs}
use Rattle.cow_eval.proofs.entry.Entry.change.Goals as goal

pub invariant_of-self : goal.invariant_of-self
invariant_of-self g c =
    let s = out-Statement c.args.statement.now in
    let t = turn_of s in
    let r = c.change in
    let e : SeenEntry = record { name = c.self.inside.name; seen = g.V.Shown.seen c.self.inside.value; flag = c.self.inside.alone } in
    alone-kept t e c.self.invariant (g.V.Shown.seen r.new.self) r.result r.ensures.does (turn-small s e.seen.value c.self.invariant.small)

pub returns-then-self-clause-does : goal.returns-then-self-clause-does
returns-then-self-clause-does g c =
    let s = out-Statement c.args.statement.now in
    let t = turn_of s in
    let r = c.change in
    let e : SeenEntry = record { name = c.self.inside.name; seen = g.V.Shown.seen c.self.inside.value; flag = c.self.inside.alone } in
    rw (← c.self.view_is) (alone-changes t e c.self.invariant (g.V.Shown.seen r.new.self) r.result r.ensures.does (λ refused. (r.ensures.paid.free refused).0) c.if-self.true)

pub returns-then-self-clause-costs : goal.returns-then-self-clause-costs
returns-then-self-clause-costs g c =
    let p = g.V.Shown.counted in
    let s = out-Statement c.args.statement.now in
    let t = turn_of s in
    let r = c.change in
    let e : SeenEntry = record { name = c.self.inside.name; seen = g.V.Shown.seen c.self.inside.value; flag = c.self.inside.alone } in
    let e' : SeenEntry = record { name = e.name; seen = g.V.Shown.seen r.new.self; flag = e.flag } in
    rw (← c.self.view_is) (entry-costs p (literals_of p s) t e e' c.args.h.now r.new.h r.result r.ensures.paid (cost-kept s e.seen.alone e.flag e.seen.value c.self.invariant.alone) c.self.invariant.small (omega (arith, c.requires.few)) (omega arith) (λ none brings. after-call p _ r.result e.seen.value e'.seen.value (t.run e.seen.value) r.ensures.does.value r.ensures.does.kept none (turn-bare p s e.seen.value none brings)))

pub invariant_of-self-2 : goal.invariant_of-self-2
invariant_of-self-2 g c =
    let s = out-Statement c.args.statement.now in
    let t = turn_of s in
    let r = c.change-result in
    let e : SeenEntry = record { name = c.self.inside.name; seen = g.V.Shown.seen c.self.inside.value; flag = c.self.inside.alone } in
    rw c.flag_after-self-inside.ensures (told-kept t e c.self.invariant (g.V.Shown.seen r.new.self) r.result r.ensures.does (turn-small s e.seen.value c.self.invariant.small) c.parts-parts.result c.parts-parts.ensures)

pub returns-clause-does : goal.returns-clause-does
returns-clause-does g c =
    let s = out-Statement c.args.statement.now in
    let t = turn_of s in
    let r = c.change-result in
    let e : SeenEntry = record { name = c.self.inside.name; seen = g.V.Shown.seen c.self.inside.value; flag = c.self.inside.alone } in
    rw (← c.self.view_is, c.flag_after-self-inside.ensures) (told-changes t e c.self.invariant (g.V.Shown.seen r.new.self) r.result r.ensures.does (λ refused. (r.ensures.paid.free refused).0) c.if-self.false c.parts-parts.result c.parts-parts.ensures)

pub returns-clause-costs : goal.returns-clause-costs
returns-clause-costs g c =
    let p = g.V.Shown.counted in
    let s = out-Statement c.args.statement.now in
    let t = turn_of s in
    let r = c.change-result in
    let e : SeenEntry = record { name = c.self.inside.name; seen = g.V.Shown.seen c.self.inside.value; flag = c.self.inside.alone } in
    let e' : SeenEntry = record { name = e.name; seen = g.V.Shown.seen r.new.self; flag = c.flag_after-self-inside.result } in
    rw (← c.self.view_is) (entry-costs p (literals_of p s) t e e' c.args.h.now r.new.h r.result r.ensures.paid (cost-kept s e.seen.alone e.flag e.seen.value c.self.invariant.alone) c.self.invariant.small (omega (arith, c.requires.few)) (omega arith) (λ none brings. after-call p _ r.result e.seen.value e'.seen.value (t.run e.seen.value) r.ensures.does.value r.ensures.does.kept none (turn-bare p s e.seen.value none brings)))

pub returns-then-self-clause-kept : goal.returns-then-self-clause-kept
returns-then-self-clause-kept g c =
    let s = out-Statement c.args.statement.now in
    let t = turn_of s in
    let r = c.change in
    let e : SeenEntry = record { name = c.self.inside.name; seen = g.V.Shown.seen c.self.inside.value; flag = c.self.inside.alone } in
    alone-kept t e c.self.invariant (g.V.Shown.seen r.new.self) r.result r.ensures.does (turn-small s e.seen.value c.self.invariant.small)

pub returns-clause-kept : goal.returns-clause-kept
returns-clause-kept g c =
    let s = out-Statement c.args.statement.now in
    let t = turn_of s in
    let r = c.change-result in
    let e : SeenEntry = record { name = c.self.inside.name; seen = g.V.Shown.seen c.self.inside.value; flag = c.self.inside.alone } in
    rw c.flag_after-self-inside.ensures (told-kept t e c.self.invariant (g.V.Shown.seen r.new.self) r.result r.ensures.does (turn-small s e.seen.value c.self.invariant.small) c.parts-parts.result c.parts-parts.ensures)
