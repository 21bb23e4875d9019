use Rattle.std.proofs.Common.{◌+◌, false, Ok, ap, sym, ◌∙◌}
use Rattle.std.proofs.lemmas.List.Elements.{All-set}
use Rattle.cow_model.specs.Sharing.{both_cost}
use Rattle.cow_model.specs.Turns.{added_of}
use Rattle.cow_model.specs.declared.outcome.Entry.{Entry}
use Rattle.cow_model.specs.declared.statement.Statement.{out-Statement}
use Rattle.cow_eval.specs.Entries.{IsKept, entry_of}
use Rattle.cow_eval.specs.Envs.{SeenEnv}
use Rattle.cow_eval.proofs.Apart.{by-done, by-refused, by-failed, one-entry, apart}
use Rattle.cow_eval.proofs.BareNames.{found-bare}
use Rattle.cow_eval.proofs.both.turn_by_other.Goals as goal

pub invariant_of-env : goal.invariant_of-env
invariant_of-env g c =
    let d = c.change_by_place.ensures in
    rw d.names (All-set IsKept c.env.inside.names.items c.in-Some.at d.new d.kept c.env.invariant)

pub invariant_of-env-in-Ok : goal.invariant_of-env-in-Ok
invariant_of-env-in-Ok g c =
    let d = c.change_by_place.ensures in
    rw d.names (All-set IsKept c.env.inside.names.items c.in-Some.at d.new d.kept c.env.invariant)

pub invariant_of-env-in-Err : goal.invariant_of-env-in-Err
invariant_of-env-in-Err g c =
    let d = c.change_by_place.ensures in
    rw d.names (All-set IsKept c.env.inside.names.items c.in-Some.at d.new d.kept c.env.invariant)

pub returns-in-Ok : goal.returns-in-Ok
returns-in-Ok g c =
    let before : SeenEnv = record { names = c.env.inside.names.items; room = c.env.inside.room; allowed = c.env.inside.allowed } in
    let place = sym (rw c.deref.ensures.value at c.find.ensures) ∙ c.in-Some.is in
    let place-2 = sym (rw c.deref-2.ensures.value at c.find-2.ensures) ∙ c.in-Some-find.is in
    let s = out-Statement c.args.statement.now in
    let d = c.change_by_place.ensures in
    let r = c.change_by_place in
    let one = one-entry c.env.inside.names.items c.args.name.now c.in-Some.at c.index.result.now d.old place c.index.ensures d.old_is in
    let two = one-entry c.env.inside.names.items c.args.other.now c.in-Some-find.by c.index-2.result.now d.other place-2 c.index-2.ensures d.other_is in
    let sum = ap (λ k. c.env.inside.allowed + (k + c.added.result)) (c.both_cost.ensures.cost ∙ ap (λ (x : Entry). both_cost x) one) ∙ ap (λ k. c.env.inside.allowed + (both_cost (entry_of d.old) + k)) (c.added.ensures.atoms ∙ ap (λ (x : Entry). added_of s x.value) two) in
    rw (d.names, ← c.env.view_is) (by-done g.V.Shown.counted before c.args.name.now c.args.other.now s c.in-Some.at c.in-Some-find.by d.old d.other d.new place d.old_is place-2 d.other_is false c.requires.apart c.args.h.now r.new.h r.result d.does d.costs (λ bare. found-bare g.V.Shown.counted c.args.other.now c.env.inside.names.items c.in-Some-find.by d.other place-2 d.other_is bare) (c.in_ok-change_by_place.was ∙ ap Ok c.in-Ok.is) _ sum c.args.text.now.items _)

pub returns-in-Err : goal.returns-in-Err
returns-in-Err g c =
    let before : SeenEnv = record { names = c.env.inside.names.items; room = c.env.inside.room; allowed = c.env.inside.allowed } in
    let place = sym (rw c.deref.ensures.value at c.find.ensures) ∙ c.in-Some.is in
    let place-2 = sym (rw c.deref-2.ensures.value at c.find-2.ensures) ∙ c.in-Some-find.is in
    let s = out-Statement c.args.statement.now in
    let d = c.change_by_place.ensures in
    let r = c.change_by_place in
    rw (d.names, ← c.env.view_is) (by-refused g.V.Shown.counted before c.args.name.now c.args.other.now s c.in-Some.at c.in-Some-find.by d.old d.other d.new place d.old_is place-2 d.other_is false c.requires.apart c.args.h.now r.new.h r.result d.does d.costs (λ bare. found-bare g.V.Shown.counted c.args.other.now c.env.inside.names.items c.in-Some-find.by d.other place-2 d.other_is bare) c.in-Err.why (c.in_ok-change_by_place.was ∙ ap Ok c.in-Err.is) c.args.text.now.items c.refuse-in-Err.new.text.items c.refuse-in-Err.result c.refuse-in-Err.ensures.ok c.refuse-in-Err.ensures.err)

pub returns-in_err-change_by_place : goal.returns-in_err-change_by_place
returns-in_err-change_by_place g c =
    let before : SeenEnv = record { names = c.env.inside.names.items; room = c.env.inside.room; allowed = c.env.inside.allowed } in
    let place = sym (rw c.deref.ensures.value at c.find.ensures) ∙ c.in-Some.is in
    let place-2 = sym (rw c.deref-2.ensures.value at c.find-2.ensures) ∙ c.in-Some-find.is in
    let s = out-Statement c.args.statement.now in
    let d = c.change_by_place.ensures in
    let r = c.change_by_place in
    let one = one-entry c.env.inside.names.items c.args.name.now c.in-Some.at c.index.result.now d.old place c.index.ensures d.old_is in
    let two = one-entry c.env.inside.names.items c.args.other.now c.in-Some-find.by c.index-2.result.now d.other place-2 c.index-2.ensures d.other_is in
    let sum = ap (λ k. c.env.inside.allowed + (k + c.added.result)) (c.both_cost.ensures.cost ∙ ap (λ (x : Entry). both_cost x) one) ∙ ap (λ k. c.env.inside.allowed + (both_cost (entry_of d.old) + k)) (c.added.ensures.atoms ∙ ap (λ (x : Entry). added_of s x.value) two) in
    rw (d.names, ← c.env.view_is) (by-failed g.V.Shown.counted before c.args.name.now c.args.other.now s c.in-Some.at c.in-Some-find.by d.old d.other d.new place d.old_is place-2 d.other_is false c.requires.apart c.args.h.now r.new.h r.result d.does d.costs (λ bare. found-bare g.V.Shown.counted c.args.other.now c.env.inside.names.items c.in-Some-find.by d.other place-2 d.other_is bare) c.in_err-change_by_place.was _ sum c.args.text.now.items c.from_residual.result c.from_residual.ensures.0)

pub change_by_place-requires-clause-apart : goal.change_by_place-requires-clause-apart
change_by_place-requires-clause-apart g c =
    let place = sym (rw c.deref.ensures.value at c.find.ensures) ∙ c.in-Some.is in
    let place-2 = sym (rw c.deref-2.ensures.value at c.find-2.ensures) ∙ c.in-Some-find.is in
    apart c.env.inside.names.items c.args.name.now c.args.other.now c.in-Some.at c.in-Some-find.by c.index.result.now c.index-2.result.now place c.index.ensures place-2 c.index-2.ensures c.requires.apart
