use Rattle.std.proofs.Common.{◌≡◌, true, arith, refl, ap, sym, ◌∙◌}
use Rattle.std.proofs.lemmas.Grind.{common_steps}
use Rattle.std.specs.Str.{bytes_eq}
use Rattle.cow_model.specs.Changes.{query_both_of}
use Rattle.cow_model.specs.declared.statement.Statement.{out-Statement}
use Rattle.std.proofs.lemmas.List.Elements.{All-set}
use Rattle.cow_eval.specs.Entries.{IsKept, entry_of}
use Rattle.cow_eval.specs.Envs.{SeenEnv}
use Rattle.cow_eval.proofs.Places.{values-there}
use Rattle.cow_eval.proofs.Results.{always}
use Rattle.cow_eval.proofs.Steps.{told-both, untold-both, unasked, settled}
use Rattle.cow_eval.proofs.statement.ask_both.Goals as goal

pub returns-then-eq : goal.returns-then-eq
returns-then-eq g c =
    let before : SeenEnv = record { names = c.env.inside.names.items; room = c.env.inside.room; allowed = c.env.inside.allowed } in
    let place = sym (rw c.deref.ensures.value at c.find.ensures) ∙ c.in-Some.is in
    let place-2 = sym (rw c.deref-2.ensures.value at c.find-2.ensures) ∙ c.in-Some-find.is in
    let tell = query_both_of (out-Statement c.args.statement.now) in
    let did = told-both before c.args.name.now c.args.other.now c.in-Some.at c.in-Some-find.by c.index.result.now c.index-2.result.now place c.index.ensures place-2 c.index-2.ensures tell (sym c.in-Ok.is ∙ c.in_ok-tell_both.ensures.told) in
    let yes : bytes_eq c.args.name.now c.args.other.now ≡ true = sym c.eq.ensures ∙ c.if-eq.true in
    let chosen = rw yes at did.env in
    let flag = settled before c.args.name.now c.in-Some.at c.index_mut.result.now place c.index_mut.ensures.value c.settle.new.self (ap entry_of c.settle.ensures.entry) in
    record {
      env = rw (← c.env.view_is) (flag ∙ chosen);
      text = rw (← c.env.view_is, ← did.text) c.in_ok-tell_both.ensures.reply;
      kept = _;
      allowed = rw (← c.env.view_is) refl;
      values = rw (← c.env.view_is) (values-there c.env.inside.names.items c.in-Some.at c.index_mut.result.now c.settle.new.self c.index_mut.ensures.value (ap (λ e. e.seen) c.settle.ensures.entry));
    }

pub returns-else-eq : goal.returns-else-eq
returns-else-eq g c =
    let before : SeenEnv = record { names = c.env.inside.names.items; room = c.env.inside.room; allowed = c.env.inside.allowed } in
    let place = sym (rw c.deref.ensures.value at c.find.ensures) ∙ c.in-Some.is in
    let place-2 = sym (rw c.deref-2.ensures.value at c.find-2.ensures) ∙ c.in-Some-find.is in
    let tell = query_both_of (out-Statement c.args.statement.now) in
    let did = told-both before c.args.name.now c.args.other.now c.in-Some.at c.in-Some-find.by c.index.result.now c.index-2.result.now place c.index.ensures place-2 c.index-2.ensures tell (sym c.in-Ok.is ∙ c.in_ok-tell_both.ensures.told) in
    record {
      env = grind (arith, common_steps);
      text = rw (← c.env.view_is, ← did.text) c.in_ok-tell_both.ensures.reply;
      kept = _;
      allowed = refl;
      values = refl;
    }

pub returns-in-Err : goal.returns-in-Err
returns-in-Err g c =
    let before : SeenEnv = record { names = c.env.inside.names.items; room = c.env.inside.room; allowed = c.env.inside.allowed } in
    let place = sym (rw c.deref.ensures.value at c.find.ensures) ∙ c.in-Some.is in
    let place-2 = sym (rw c.deref-2.ensures.value at c.find-2.ensures) ∙ c.in-Some-find.is in
    let tell = query_both_of (out-Statement c.args.statement.now) in
    let why = sym c.in-Err.is ∙ c.in_ok-tell_both.ensures.told in
    let did = untold-both before c.args.name.now c.args.other.now c.in-Some.at c.in-Some-find.by c.index.result.now c.index-2.result.now place c.index.ensures place-2 c.index-2.ensures tell c.in-Err.why why in
    let same = unasked (tell c.index.result.now.seen.value c.index-2.result.now.seen.value) c.in-Err.why c.args.text.now.items c.tell_both.new.text.items why c.in_ok-tell_both.ensures.reply in
    record {
      env = always _ c.refuse-in-Err.result (rw (← c.env.view_is) did.env);
      text = rw (← c.env.view_is, ← did.text, ← same) c.refuse-in-Err.ensures.ok;
      kept = rw (← same) c.refuse-in-Err.ensures.err;
      allowed = refl;
      values = refl;
    }

pub invariant_of-env : goal.invariant_of-env
invariant_of-env g c = All-set IsKept c.env.inside.names.items c.in-Some.at c.settle.new.self c.settle.ensures.kept c.env.invariant
