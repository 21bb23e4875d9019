use Rattle.std.proofs.Common.{◌≡◌, ◌+◌, ◌≤◌, ◌^◌, [], ◌∷◌, arith, ap, drop, length, map, sym, ◌∙◌, subst}
use Rattle.std.proofs.lemmas.Iterator.Adapters.{YieldsList-from_vec}
use Rattle.std.proofs.lemmas.Iterator.Consumers.{YieldsList-so_far, YieldsList-turn, YieldsList-end}
use Rattle.std.proofs.lemmas.List.{length-append, map-append, map-id}
use Rattle.std.proofs.lemmas.Result.{err_from_is_err_and}
use Rattle.cow_model.proofs.ListSteps.{All-one}
use Rattle.cow_model.specs.Fork.{assigned, assigned_all}
use Rattle.cow_model.specs.Fronts.{IsFrontOf}
use Rattle.cow_model.specs.Plain.{stop}
use Rattle.cow_model.specs.declared.outcome.Outcome.{Outcome}
use Rattle.cow_eval.specs.Entries.{SeenEntry, entry_of}
use Rattle.cow_value.specs.Seen.{units}
use Rattle.cow_tasks.specs.Joins.{outcome_at}
use Rattle.cow_tasks.proofs.Growth.{front-on}
use Rattle.cow_tasks.proofs.Joining.{assigned-push, front-assigned}
use Rattle.cow_tasks.proofs.Lists.{All-unpush, parted}
use Rattle.cow_tasks.proofs.join.assign_all.Goals as goal

pub returns-in_err-assign : goal.returns-in_err-assign
returns-in_err-assign g c =
    let gives = c.args.gives.items in
    let loop = c.loop-entry in
    let so-far = loop.invariant in
    let did = c.in_err-assign.ensures in
    let refused = err_from_is_err_and c.from_residual.result c.from_residual.ensures.1 in
    let from = c.into_iter-entry-iterator.ensures.into_iter_gives in
    let list = YieldsList-from_vec {s = c.into_iter-entry-iterator.result} gives from.0 (from.1 ∙ c.args.gives.ok.0) in
    let whole = parted gives loop.yielded c.in-Some.entry (YieldsList-so_far list loop.yielded loop.entry-iterator loop.yielded_by) (YieldsList-turn list loop.yielded loop.entry-iterator loop.yielded_by c.next.result c.next.new.self c.in-Some.entry c.in-Some.is c.next.ensures.steps) in
    let start = outcome_at c.args.env.now c.args.text.now.items in
    rw refused.1 (record {
      done = _;
      kept = front-assigned start loop.yielded gives c.in-Some.entry (drop (length loop.yielded + 1) gives) c.assign.new.text.items whole (subst (λ (o : Outcome). IsFrontOf c.assign.new.text.items (assigned o (entry_of c.in-Some.entry)).text) so-far.done did.kept);
      grows = front-on c.args.text.now.items loop.text.items c.assign.new.text.items so-far.grows did.grows;
      allowed = did.allowed ∙ so-far.allowed;
      copied = did.copied ∙ so-far.copied;
      falls = let low = so-far.falls in let fell = did.falls in omega (arith, low, fell);
      near = λ m names all. _;
      bare = λ names all. _;
    })

pub loop-entry-preserved : goal.loop-entry-preserved
loop-entry-preserved g c =
    let p = g.V.Shown.counted in
    let loop = c.loop-entry in
    let x = c.in-Some.entry in
    let so-far = loop.invariant in
    let did = c.in_ok-assign.ensures in
    let start = outcome_at c.args.env.now c.args.text.now.items in
    record {
      done = did.done ∙ (ap (λ o. assigned o (entry_of x)) so-far.done ∙ (sym (assigned-push start (map entry_of loop.yielded) (entry_of x)) ∙ ap (assigned_all start) (sym (map-append entry_of loop.yielded (x ∷ [])))));
      grows = front-on c.args.text.now.items loop.text.items c.assign.new.text.items so-far.grows did.grows;
      allowed = did.allowed ∙ so-far.allowed;
      copied = did.copied ∙ so-far.copied;
      falls = let low = so-far.falls in let fell = did.falls in omega (arith, low, fell);
      near = λ m names all.
          let both = All-unpush (λ (e : SeenEntry). stop e.seen.value + m ≤ 2 ^ 31) loop.yielded x all in
          did.near m (so-far.near m names both.0) (All-one (λ (e : SeenEntry). stop e.seen.value + m ≤ 2 ^ 31) x both.1);
      bare = λ names all.
          let both = All-unpush (λ (e : SeenEntry). units p e.seen ≡ 0) loop.yielded x all in
          let now = so-far.bare names both.0 in
          let then = did.bare now.bare (All-one (λ (e : SeenEntry). units p e.seen ≡ 0) x both.1) in
          let before = now.sum in
          let after = then.sum in
          record { bare = then.bare; sum = omega (arith, before, after, length-append loop.yielded (x ∷ [])) };
    }

pub returns : goal.returns
returns g c =
    let gives = c.args.gives.items in
    let loop = c.loop-entry in
    let did = loop.invariant in
    let from = c.into_iter-entry-iterator.ensures.into_iter_gives in
    let list = YieldsList-from_vec {s = c.into_iter-entry-iterator.result} gives from.0 (from.1 ∙ c.args.gives.ok.0) in
    let end = YieldsList-end list loop.yielded loop.entry-iterator loop.yielded_by c.next.result c.next.new.self c.in-None.is c.next.ensures.steps in
    let all = sym (map-id loop.yielded) ∙ end.0 in
    rw (← all) (record { done = did.done; kept = _; grows = did.grows; allowed = did.allowed; copied = did.copied; falls = did.falls; near = did.near; bare = did.bare })
