use Rattle.std.proofs.Common.{refl, sym, ◌∙◌}
use Rattle.cow_model.specs.Changes.{query_of}
use Rattle.cow_model.specs.declared.statement.Statement.{out-Statement}
use Rattle.cow_eval.specs.Envs.{SeenEnv}
use Rattle.cow_eval.proofs.Results.{always}
use Rattle.cow_eval.proofs.Steps.{untold, unasked}
use Rattle.cow_eval.proofs.statement.ask.Goals as goal

pub returns-in-Err : goal.returns-in-Err
returns-in-Err g c =
    let before : SeenEnv = record { names = c.env.inside.names.items; room = c.env.inside.room; allowed = c.env.inside.allowed } in
    let place = sym (rw c.deref.ensures.value at c.find.ensures) ∙ c.in-Some.is in
    let q = query_of (out-Statement c.args.statement.now) in
    let why = sym c.in-Err.is ∙ c.in_ok-tell.ensures.told in
    let did = untold before c.args.name.now c.in-Some.at c.index.result.now place c.index.ensures q c.in-Err.why why in
    let same = unasked (q c.index.result.now.seen.value) c.in-Err.why c.args.text.now.items c.tell.new.text.items why c.in_ok-tell.ensures.reply in
    record {
      env = always _ c.refuse-in-Err.result (rw (← c.env.view_is) did.env);
      text = rw (← c.env.view_is, ← did.text, ← same) c.refuse-in-Err.ensures.ok;
      kept = rw (← same) c.refuse-in-Err.ensures.err;
      allowed = refl;
      values = refl;
    }
