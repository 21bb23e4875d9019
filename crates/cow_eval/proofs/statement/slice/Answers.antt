use Rattle.std.proofs.Common.{◌≡◌, ◌≤◌, arith, ap, sym, ◌∙◌, w64}
use Rattle.std.proofs.lemmas.Int.{to_z-of_z}
use Rattle.std.proofs.lemmas.List.{append-nil}
use Rattle.cow_model.specs.declared.outcome.Environment.{Environment}
use Rattle.cow_value.specs.Seen.{units}
use Rattle.std.proofs.lemmas.Grind.{common_steps}
use Rattle.std.proofs.lemmas.List.Elements.{All-set}
use Rattle.cow_eval.specs.Entries.{IsKept, entry_of}
use Rattle.cow_eval.proofs.Places.{same-there}
use Rattle.cow_eval.proofs.BareNames.{bare-set, found-bare, shared-bare}
use Rattle.cow_eval.proofs.Results.{always, on-ok}
use Rattle.cow_eval.proofs.Steps.{no-room, uncut, cut}
use Rattle.cow_eval.proofs.statement.slice.Goals as goal

pub returns-then-not-has_place : goal.returns-then-not-has_place
returns-then-not-has_place g c = record {
  env = grind (arith, common_steps);
  text = let found = rw c.deref.ensures.value at c.find.ensures in
      let full = sym c.has_place.ensures ∙ c.if-not-has_place.true in
      let room = rw (← c.env.view_is) at full in
      let did = no-room (record { names = c.env.inside.names.items; room = c.env.inside.room; allowed = c.env.inside.allowed }) c.args.other.now c.in-Some.from c.index.result.now (sym found ∙ c.in-Some.is) c.index.ensures c.args.name.now c.args.i c.args.j room in
      let said = rw (to_z-of_z w64 c.args.i c.ranges.i, to_z-of_z w64 c.args.j c.ranges.j) at c.slice_refusal-why.ensures in
      rw (← c.env.view_is, ← did.text, ← said, ← c.unwrap_or.ensures) c.refuse-then-not-has_place.ensures.ok;
  kept = grind (arith, common_steps);
  most = grind (arith, common_steps);
  costs = grind (arith, common_steps);
  bare = grind (arith, common_steps);
}

pub returns-in-Err : goal.returns-in-Err
returns-in-Err g c = record {
  env = let found = rw c.deref.ensures.value at c.find.ensures in
      let said = rw (to_z-of_z w64 c.args.i c.ranges.i, to_z-of_z w64 c.args.j c.ranges.j) at c.in-Err.ensures.answer in
      let did = uncut (record { names = c.env.inside.names.items; room = c.env.inside.room; allowed = c.env.inside.allowed }) c.args.other.now c.in-Some.from c.index_mut.result.now (sym found ∙ c.in-Some.is) c.index_mut.ensures.value c.args.name.now c.args.i c.args.j c.in-Err.why said in
      let same = same-there c.args.other.now c.env.inside.names.items c.in-Some.from c.index_mut.result.now (sym found ∙ c.in-Some.is) c.index_mut.ensures.value c.slice.new.self (ap entry_of c.in-Err.ensures.refused.0) in
      always _ c.refuse-in-Err.result (rw (← c.env.view_is) (ap {B = Environment} (λ names. record { names = names; room = c.env.inside.room; allowed = c.env.inside.allowed }) same ∙ did.env));
  text = let found = rw c.deref.ensures.value at c.find.ensures in
      let said = rw (to_z-of_z w64 c.args.i c.ranges.i, to_z-of_z w64 c.args.j c.ranges.j) at c.in-Err.ensures.answer in
      let did = uncut (record { names = c.env.inside.names.items; room = c.env.inside.room; allowed = c.env.inside.allowed }) c.args.other.now c.in-Some.from c.index_mut.result.now (sym found ∙ c.in-Some.is) c.index_mut.ensures.value c.args.name.now c.args.i c.args.j c.in-Err.why said in
      rw (← c.env.view_is, ← did.text) c.refuse-in-Err.ensures.ok;
  kept = grind (arith, common_steps);
  most = grind (arith, common_steps);
  costs = grind (arith, common_steps);
  bare = grind (arith, common_steps);
}

pub returns-in-Ok : goal.returns-in-Ok
returns-in-Ok g c = record {
  env = let found = rw c.deref.ensures.value at c.find.ensures in
      let free = sym c.has_place.ensures ∙ c.if-not-has_place.false in
      let room = rw (← c.env.view_is) at free in
      let said = rw (to_z-of_z w64 c.args.i c.ranges.i, to_z-of_z w64 c.args.j c.ranges.j) at c.in-Ok.ensures.answer in
      let did = cut (record { names = c.env.inside.names.items; room = c.env.inside.room; allowed = c.env.inside.allowed }) c.args.other.now c.in-Some.from c.index_mut.result.now (sym found ∙ c.in-Some.is) c.index_mut.ensures.value c.args.name.now c.args.i c.args.j c.slice.new.self (g.V.Shown.seen c.in-Ok.value).value (ap entry_of c.in-Ok.ensures.entry) said room in
      rw (← c.env.view_is, ← did.env) c.give.ensures.ok;
  text = let found = rw c.deref.ensures.value at c.find.ensures in
      let free = sym c.has_place.ensures ∙ c.if-not-has_place.false in
      let room = rw (← c.env.view_is) at free in
      let said = rw (to_z-of_z w64 c.args.i c.ranges.i, to_z-of_z w64 c.args.j c.ranges.j) at c.in-Ok.ensures.answer in
      let did = cut (record { names = c.env.inside.names.items; room = c.env.inside.room; allowed = c.env.inside.allowed }) c.args.other.now c.in-Some.from c.index_mut.result.now (sym found ∙ c.in-Some.is) c.index_mut.ensures.value c.args.name.now c.args.i c.args.j c.slice.new.self (g.V.Shown.seen c.in-Ok.value).value (ap entry_of c.in-Ok.ensures.entry) said room in
      always _ c.give.result (rw (← c.env.view_is, ← did.text) (sym (append-nil c.args.text.now.items)));
  kept = grind (arith, common_steps);
  most = grind (arith, common_steps);
  costs = grind (arith, common_steps);
  bare = (λ bare none.
      let found = rw c.deref.ensures.value at c.find.ensures in
      let names = rw (← c.env.view_is) at bare in
      let place = sym found ∙ c.in-Some.is in
      let one : 1 ≤ c.args.h.now.spare = omega (arith, c.requires.ready.spare) in
      let seen-new = ap (λ e. e.seen) c.in-Ok.ensures.entry in
      let old = found-bare g.V.Shown.counted c.args.other.now c.env.inside.names.items c.in-Some.from c.index_mut.result.now place c.index_mut.ensures.value names in
      let new : units g.V.Shown.counted c.slice.new.self.seen ≡ 0 = rw seen-new old in
      let given = c.give.ensures.bare (bare-set g.V.Shown.counted c.env.inside.names.items c.in-Some.from c.slice.new.self names new) (c.in-Ok.ensures.bare old) in
      on-ok _ _ c.give.result given (λ done. rw (← c.env.view_is) (shared-bare g.V.Shown.counted c.args.other.now c.env.inside.names.items c.in-Some.from c.index_mut.result.now place c.index_mut.ensures.value names c.slice.new.self c.give.new.self.names c.args.h.now c.give.new.h one (rw (← c.in-Ok.ensures.spent) done))));
}

pub invariant_of-env-in-Ok : goal.invariant_of-env-in-Ok
invariant_of-env-in-Ok g c = All-set IsKept c.env.inside.names.items c.in-Some.from c.slice.new.self c.slice.ensures.kept c.env.invariant
