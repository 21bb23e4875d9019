use Rattle.std.proofs.Common.{◌+◌, ◌/◌, length}
use Rattle.std.proofs.lemmas.Result.{err_from_is_err_and}
use Rattle.cow_tasks.proofs.Forking.{shares-of, grows-in-captures, stops-free, stops-before, allowed-fits, stops-joining, forked-done, forked-next}
use Rattle.cow_tasks.proofs.fork.fork.Goals as goal

pub returns-in_err-tasks-clause-step : goal.returns-in_err-tasks-clause-step
returns-in_err-tasks-clause-step g c =
    let refused = err_from_is_err_and c.from_residual.result c.from_residual.ensures.1 in
    let did = c.in_err-tasks.ensures in
    rw refused.1 (stops-free c.args.blocks.now c.args.env.now c.make_tasks.new.parent c.args.text.now.items c.make_tasks.new.text.items c.args.h.now c.make_tasks.new.h did.free g.V.Shown.counted refused.0
    (grows-in-captures c.args.blocks.now c.args.env.now c.make_tasks.new.parent c.args.text.now.items c.make_tasks.new.text.items c.args.h.now c.make_tasks.new.h did.free did.kept))

pub returns-in_err-outs-clause-step : goal.returns-in_err-outs-clause-step
returns-in_err-outs-clause-step g c =
    let refused = err_from_is_err_and c.from_residual-in_err-outs.result c.from_residual-in_err-outs.ensures.1 in
    let share = c.spare.result / (length c.args.blocks.now + 1) in
    let did = c.in_ok-tasks.ensures in
    rw refused.1 (stops-before g.V.Shown.counted c.args.blocks.now share c.args.env.now c.make_tasks.new.parent c.args.text.now.items c.make_tasks.new.text.items c.args.h.now c.make_tasks.new.h c.in_ok-tasks.tasks.items did.makes did.free refused.0)

pub join_all-requires : goal.join_all-requires
join_all-requires g c =
    let share = c.spare.result / (length c.args.blocks.now + 1) in
    let did = c.in_ok-tasks.ensures in
    record { few = allowed-fits g.V.Shown.counted c.args.blocks.now share c.args.env.now c.make_tasks.new.parent c.args.text.now.items c.make_tasks.new.text.items c.args.h.now c.make_tasks.new.h c.in_ok-tasks.tasks.items did.makes did.free c.in_ok-outs.outs.items c.in_ok-outs.ensures c.requires.ready }

pub returns-in_err-gives-clause-step : goal.returns-in_err-gives-clause-step
returns-in_err-gives-clause-step g c =
    let refused = err_from_is_err_and c.from_residual-in_err-gives.result c.from_residual-in_err-gives.ensures.1 in
    let share = c.spare.result / (length c.args.blocks.now + 1) in
    let did = c.in_ok-tasks.ensures in
    let joined = c.in_err-gives.ensures in
    rw refused.1 (stops-joining g.V.Shown.counted c.args.blocks.now share c.args.env.now c.make_tasks.new.parent c.args.text.now.items c.make_tasks.new.text.items c.args.h.now c.make_tasks.new.h c.in_ok-tasks.tasks.items did.makes did.free c.in_ok-outs.outs.items c.in_ok-outs.ensures c.join_all.new.env c.join_all.new.text.items c.join_all.new.h joined.joins refused.0 joined.err)

pub returns-clause-step : goal.returns-clause-step
returns-clause-step g c =
    let share = c.spare.result / (length c.args.blocks.now + 1) in
    let did = c.in_ok-tasks.ensures in
    let joined = c.in_ok-gives.ensures in
    forked-done g.V.Shown.counted c.args.blocks.now share c.args.env.now c.make_tasks.new.parent c.args.text.now.items c.make_tasks.new.text.items c.args.h.now c.make_tasks.new.h c.in_ok-tasks.tasks.items did.makes did.free c.in_ok-outs.outs.items c.in_ok-outs.ensures c.join_all.new.env c.join_all.new.text.items c.join_all.new.h joined.joins c.in_ok-gives.gives.items joined.ok c.assign_all.new.env c.assign_all.new.text.items c.assign_all.new.h c.assign_all.result c.assign_all.ensures
    (shares-of c.spare.result c.args.h.now.spare (length c.args.blocks.now) c.spare.ensures.value) c.requires.tasks.captures

pub returns-clause-next : goal.returns-clause-next
returns-clause-next g c = λ n can.
    let share = c.spare.result / (length c.args.blocks.now + 1) in
    let did = c.in_ok-tasks.ensures in
    let joined = c.in_ok-gives.ensures in
    forked-next g.V.Shown.counted c.args.blocks.now share c.args.env.now c.make_tasks.new.parent c.args.text.now.items c.make_tasks.new.text.items c.args.h.now c.make_tasks.new.h c.in_ok-tasks.tasks.items did.makes did.free c.in_ok-outs.outs.items c.in_ok-outs.ensures c.join_all.new.env c.join_all.new.text.items c.join_all.new.h joined.joins c.in_ok-gives.gives.items joined.ok c.assign_all.new.env c.assign_all.new.text.items c.assign_all.new.h c.assign_all.result c.assign_all.ensures
    (shares-of c.spare.result c.args.h.now.spare (length c.args.blocks.now) c.spare.ensures.value) c.requires.tasks.captures n can
