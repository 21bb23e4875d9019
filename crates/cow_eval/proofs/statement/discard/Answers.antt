use Rattle.std.proofs.Common.{arith, map, ap, sym, ◌∙◌}
use Rattle.std.proofs.lemmas.List.{append-nil}
use Rattle.cow_model.specs.declared.outcome.Environment.{Environment}
use Rattle.std.proofs.lemmas.Grind.{common_steps}
use Rattle.cow_model.proofs.ListSteps.{All-remove}
use Rattle.cow_eval.specs.Entries.{IsKept, entry_of}
use Rattle.cow_eval.proofs.BareNames.{gone-bare}
use Rattle.cow_eval.proofs.Steps.{gone}
use Rattle.cow_eval.proofs.statement.discard.Goals as goal

pub returns-clause-step : goal.returns-clause-step
returns-clause-step g c = record {
  env = let found = rw c.deref.ensures.value at c.find.ensures in
      let did = gone (record { names = c.env.inside.names.items; room = c.env.inside.room; allowed = c.env.inside.allowed }) c.args.name.now c.in-Some.at c.remove.result (sym found ∙ c.in-Some.is) c.remove.ensures.value in
      rw (← c.env.view_is) (ap {B = Environment} (λ names. record { names = map entry_of names; room = c.env.inside.room; allowed = c.env.inside.allowed }) c.remove.ensures.items ∙ did.env);
  text = let found = rw c.deref.ensures.value at c.find.ensures in
      let did = gone (record { names = c.env.inside.names.items; room = c.env.inside.room; allowed = c.env.inside.allowed }) c.args.name.now c.in-Some.at c.remove.result (sym found ∙ c.in-Some.is) c.remove.ensures.value in
      rw (← c.env.view_is, ← did.text) (sym (append-nil c.args.text.now.items));
  kept = grind (arith, common_steps);
  most = grind (arith, common_steps);
  costs = grind (arith, common_steps);
  bare = (λ bare none.
      let found = rw c.deref.ensures.value at c.find.ensures in
      let names = rw (← c.env.view_is) at bare in
      rw (c.remove.ensures.items, ← c.env.view_is) (gone-bare g.V.Shown.counted c.args.name.now c.env.inside.names.items c.in-Some.at c.remove.result (sym found ∙ c.in-Some.is) c.remove.ensures.value names c.args.h.now c.end.new.h c.end.ensures.bare));
}

pub invariant_of-env : goal.invariant_of-env
invariant_of-env g c = rw c.remove.ensures.items (All-remove IsKept c.env.inside.names.items c.in-Some.at c.env.invariant)
