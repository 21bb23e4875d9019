use Rattle.std.proofs.Common.{refl, sym, ◌∙◌}
use Rattle.cow_eval.specs.Envs.{SeenEnv}
use Rattle.cow_eval.proofs.Results.{always}
use Rattle.cow_eval.proofs.Steps.{printed, unprinted}
use Rattle.cow_eval.proofs.statement.show.Goals as goal

pub returns-in-Some-2 : goal.returns-in-Some-2
returns-in-Some-2 g c =
    let before : SeenEnv = record { names = c.env.inside.names.items; room = c.env.inside.room; allowed = c.env.inside.allowed } in
    let place = sym (rw c.deref.ensures.value at c.find.ensures) ∙ c.in-Some.is in
    let fits = rw c.in-Some-2.is at c.in_ok-left.ensures.fits in
    let did = printed before c.args.name.now c.in-Some.at c.index.result.now place c.index.ensures c.in-Some-2.left fits.rest in
    record {
      env = rw (← c.env.view_is) did.env;
      text = rw (← c.env.view_is, ← did.text) fits.text;
      kept = _;
      allowed = rw (← c.env.view_is) refl;
      values = rw (← c.env.view_is) refl;
    }

pub returns-in-None : goal.returns-in-None
returns-in-None g c =
    let before : SeenEnv = record { names = c.env.inside.names.items; room = c.env.inside.room; allowed = c.env.inside.allowed } in
    let place = sym (rw c.deref.ensures.value at c.find.ensures) ∙ c.in-Some.is in
    let longer = rw c.in-None.is at c.in_ok-left.ensures.longer in
    let did = unprinted before c.args.name.now c.in-Some.at c.index.result.now place c.index.ensures longer.1 in
    record {
      env = always _ c.refuse-in-None.result (rw (← c.env.view_is) did.env);
      text = rw (← c.env.view_is, ← did.text, ← longer.0) c.refuse-in-None.ensures.ok;
      kept = rw (← longer.0) c.refuse-in-None.ensures.err;
      allowed = refl;
      values = refl;
    }
