use Rattle.std.proofs.Common.{◌+◌, refl, ap, sym, ◌∙◌, arith}
use Rattle.std.proofs.lemmas.Grind.{common_steps}
use Rattle.cow_model.specs.declared.statement.Statement.{out-Statement}
use Rattle.cow_model.specs.Turns.{turn_of, alone_after}
use Rattle.std.proofs.lemmas.List.Elements.{All-set}
use Rattle.cow_eval.specs.Entries.{IsKept}
use Rattle.cow_eval.specs.Envs.{SeenEnv}
use Rattle.cow_eval.proofs.BareNames.{changed-bare}
use Rattle.cow_eval.proofs.Costs.{always-err, most-tried, most-kept, costs-tried, costs-kept}
use Rattle.cow_eval.proofs.Results.{always}
use Rattle.cow_eval.proofs.Steps.{changed, kept, unsaid}
use Rattle.cow_eval.proofs.statement.turn.Goals as goal

pub invariant_of-env : goal.invariant_of-env
invariant_of-env g c = All-set IsKept c.env.inside.names.items c.in-Some.at c.change.new.self c.change.ensures.kept c.env.invariant

pub invariant_of-env-in-Ok : goal.invariant_of-env-in-Ok
invariant_of-env-in-Ok g c = All-set IsKept c.env.inside.names.items c.in-Some.at c.change.new.self c.change.ensures.kept c.env.invariant

pub invariant_of-env-in-Err : goal.invariant_of-env-in-Err
invariant_of-env-in-Err g c = All-set IsKept c.env.inside.names.items c.in-Some.at c.change.new.self c.change.ensures.kept c.env.invariant

pub returns-in-Ok : goal.returns-in-Ok
returns-in-Ok g c =
    let t = turn_of (out-Statement c.args.statement.now) in
    let before : SeenEnv = record { names = c.env.inside.names.items; room = c.env.inside.room; allowed = c.env.inside.allowed } in
    let place = sym (rw c.deref.ensures.value at c.find.ensures) ∙ c.in-Some.is in
    let is = c.index_mut-entry.ensures.value in
    let turns = c.in_ok-change.ensures.does in
    let did = changed before c.args.name.now c.change.new.self place is (λ e. t.cost e.alone e.value) (λ e. alone_after t e.alone e.value) (λ e. t.run e.value) turns.entry (sym c.in-Ok.is ∙ turns.told) in
    let allowed = ap (λ k. c.env.inside.allowed + k) c.cost.ensures.cost in
    record {
      env = rw (c.cost.ensures.cost, ← c.env.view_is) did.env;
      text = rw (← c.env.view_is, ← did.text) turns.reply;
      kept = grind (arith, common_steps);
      most = grind (arith, common_steps);
      costs = rw (← c.env.view_is) (costs-tried _ _ c.change.ensures.costs allowed);
      bare = λ bare none.
          let names = rw (← c.env.view_is) at bare in
          rw (← c.env.view_is) (changed-bare _ _ _ _ _ place is names c.change.ensures.costs none);
    }

pub returns-in-Err : goal.returns-in-Err
returns-in-Err g c =
    let t = turn_of (out-Statement c.args.statement.now) in
    let before : SeenEnv = record { names = c.env.inside.names.items; room = c.env.inside.room; allowed = c.env.inside.allowed } in
    let place = sym (rw c.deref.ensures.value at c.find.ensures) ∙ c.in-Some.is in
    let is = c.index_mut-entry.ensures.value in
    let turns = c.in_ok-change.ensures.does in
    let told = sym c.in-Err.is ∙ turns.told in
    let did = kept before c.args.name.now c.change.new.self place is (λ e. t.cost e.alone e.value) (λ e. alone_after t e.alone e.value) (λ e. t.run e.value) turns.entry told in
    let same = unsaid _ told turns.reply in
    record {
      env = always _ c.refuse-in-Err.result (rw (← c.env.view_is) did.env);
      text = rw (← c.env.view_is, ← did.text, ← same) c.refuse-in-Err.ensures.ok;
      kept = rw (← same) c.refuse-in-Err.ensures.err;
      most = always-err _ c.refuse-in-Err.result (rw (← c.env.view_is) (most-kept before c.args.name.now place is (λ e. t.cost e.alone e.value) (λ e. alone_after t e.alone e.value) (λ e. t.run e.value)));
      costs = rw (← c.env.view_is) (costs-kept _ _ c.change.ensures.costs told refl);
      bare = λ bare none.
          let names = rw (← c.env.view_is) at bare in
          always _ c.refuse-in-Err.result (rw (← c.env.view_is) (changed-bare _ _ _ _ _ place is names c.change.ensures.costs none));
    }

pub returns-in_err-change : goal.returns-in_err-change
returns-in_err-change g c =
    let t = turn_of (out-Statement c.args.statement.now) in
    let before : SeenEnv = record { names = c.env.inside.names.items; room = c.env.inside.room; allowed = c.env.inside.allowed } in
    let place = sym (rw c.deref.ensures.value at c.find.ensures) ∙ c.in-Some.is in
    let is = c.index_mut-entry.ensures.value in
    let allowed = ap (λ k. c.env.inside.allowed + k) c.cost.ensures.cost in
    record {
      env = grind (arith, common_steps);
      text = grind (arith, common_steps);
      kept = grind (arith, common_steps);
      most = always-err _ c.from_residual.result (rw (← c.env.view_is) (most-tried before c.args.name.now place is (λ e. t.cost e.alone e.value) (λ e. alone_after t e.alone e.value) (λ e. t.run e.value) allowed c.in_err-change.ensures.does.free));
      costs = rw (← c.env.view_is) (costs-tried _ _ c.change.ensures.costs allowed);
      bare = grind (arith, common_steps);
    }
