use Rattle.std.proofs.Common.{◌+◌, true, false, Ok, ap, sym, ◌∙◌}
use Rattle.std.proofs.lemmas.List.Elements.{All-set}
use Rattle.cow_model.specs.Sharing.{both_cost_of}
use Rattle.cow_model.specs.declared.statement.Statement.{out-Statement}
use Rattle.cow_eval.specs.Entries.{IsKept}
use Rattle.cow_eval.specs.Envs.{SeenEnv}
use Rattle.cow_eval.proofs.Apart.{by-done, by-refused, by-failed, itself}
use Rattle.cow_eval.proofs.both.turn_by_itself.Goals as goal

pub invariant_of-env : goal.invariant_of-env
invariant_of-env g c = All-set IsKept c.env.inside.names.items c.in-Some.at c.change_by_itself.new.self c.change_by_itself.ensures.kept c.env.invariant

pub invariant_of-env-in-Ok : goal.invariant_of-env-in-Ok
invariant_of-env-in-Ok g c = All-set IsKept c.env.inside.names.items c.in-Some.at c.change_by_itself.new.self c.change_by_itself.ensures.kept c.env.invariant

pub invariant_of-env-in-Err : goal.invariant_of-env-in-Err
invariant_of-env-in-Err g c = All-set IsKept c.env.inside.names.items c.in-Some.at c.change_by_itself.new.self c.change_by_itself.ensures.kept c.env.invariant

pub returns-in-Ok : goal.returns-in-Ok
returns-in-Ok g c =
    let before : SeenEnv = record { names = c.env.inside.names.items; room = c.env.inside.room; allowed = c.env.inside.allowed } in
    let place = sym (rw c.deref.ensures.value at c.find.ensures) ∙ c.in-Some.is in
    let is = c.index_mut-entry.ensures.value in
    let e = c.index_mut-entry.result.now in
    let r = c.change_by_itself in
    let sum = ap (λ k. c.env.inside.allowed + (k + c.added.result)) c.both_cost.ensures.cost ∙ ap (λ k. c.env.inside.allowed + (both_cost_of false e.seen.value + k)) c.added.ensures.atoms in
    rw (← c.env.view_is) (by-done g.V.Shown.counted before c.args.name.now c.args.name.now (out-Statement c.args.statement.now) c.in-Some.at c.in-Some.at e e r.new.self place is place is true (itself c.args.name.now) c.args.h.now r.new.h r.result r.ensures.does r.ensures.costs (λ bare. _) (c.in_ok-change_by_itself.was ∙ ap Ok c.in-Ok.is) _ sum c.args.text.now.items _)

pub returns-in-Err : goal.returns-in-Err
returns-in-Err g c =
    let before : SeenEnv = record { names = c.env.inside.names.items; room = c.env.inside.room; allowed = c.env.inside.allowed } in
    let place = sym (rw c.deref.ensures.value at c.find.ensures) ∙ c.in-Some.is in
    let is = c.index_mut-entry.ensures.value in
    let e = c.index_mut-entry.result.now in
    let r = c.change_by_itself in
    rw (← c.env.view_is) (by-refused g.V.Shown.counted before c.args.name.now c.args.name.now (out-Statement c.args.statement.now) c.in-Some.at c.in-Some.at e e r.new.self place is place is true (itself c.args.name.now) c.args.h.now r.new.h r.result r.ensures.does r.ensures.costs (λ bare. _) c.in-Err.why (c.in_ok-change_by_itself.was ∙ ap Ok c.in-Err.is) c.args.text.now.items c.refuse-in-Err.new.text.items c.refuse-in-Err.result c.refuse-in-Err.ensures.ok c.refuse-in-Err.ensures.err)

pub returns-in_err-change_by_itself : goal.returns-in_err-change_by_itself
returns-in_err-change_by_itself g c =
    let before : SeenEnv = record { names = c.env.inside.names.items; room = c.env.inside.room; allowed = c.env.inside.allowed } in
    let place = sym (rw c.deref.ensures.value at c.find.ensures) ∙ c.in-Some.is in
    let is = c.index_mut-entry.ensures.value in
    let e = c.index_mut-entry.result.now in
    let r = c.change_by_itself in
    let sum = ap (λ k. c.env.inside.allowed + (k + c.added.result)) c.both_cost.ensures.cost ∙ ap (λ k. c.env.inside.allowed + (both_cost_of false e.seen.value + k)) c.added.ensures.atoms in
    rw (← c.env.view_is) (by-failed g.V.Shown.counted before c.args.name.now c.args.name.now (out-Statement c.args.statement.now) c.in-Some.at c.in-Some.at e e r.new.self place is place is true (itself c.args.name.now) c.args.h.now r.new.h r.result r.ensures.does r.ensures.costs (λ bare. _) c.in_err-change_by_itself.was _ sum c.args.text.now.items c.from_residual.result c.from_residual.ensures.0)
