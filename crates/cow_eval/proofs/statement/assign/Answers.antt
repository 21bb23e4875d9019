use Rattle.std.proofs.Common.{◌≡◌, ◌≤◌, arith, ap, sym, ◌∙◌}
use Rattle.std.proofs.lemmas.List.{append-nil}
use Rattle.cow_value.specs.Seen.{units}
use Rattle.std.proofs.lemmas.Grind.{common_steps}
use Rattle.cow_eval.specs.Entries.{entry_of}
use Rattle.cow_eval.proofs.BareNames.{bare-set, found-bare, shared-bare}
use Rattle.cow_eval.proofs.Results.{always, on-ok}
use Rattle.cow_eval.proofs.Places.{still-there}
use Rattle.cow_eval.proofs.Steps.{assigned}
use Rattle.cow_eval.proofs.statement.assign.Goals as goal

pub returns-clause-step : goal.returns-clause-step
returns-clause-step g c = record {
  env = let found = rw c.deref.ensures.value at c.find.ensures in
      let free = sym c.has_place.ensures ∙ c.if-not-has_place.false in
      let room = rw (← c.env.view_is) at free in
      let did = assigned (record { names = c.env.inside.names.items; room = c.env.inside.room; allowed = c.env.inside.allowed }) c.args.other.now c.in-Some.from c.index_mut.result.now (sym found ∙ c.in-Some.is) c.index_mut.ensures.value c.args.name.now c.copy-value.new.self (g.V.Shown.seen c.copy-value.result).value (ap entry_of c.copy-value.ensures.entry) (ap (λ s. s.value) c.copy-value.ensures.copy) room in
      rw (← c.env.view_is, ← did.env) c.give.ensures.ok;
  text = let found = rw c.deref.ensures.value at c.find.ensures in
      let free = sym c.has_place.ensures ∙ c.if-not-has_place.false in
      let room = rw (← c.env.view_is) at free in
      let did = assigned (record { names = c.env.inside.names.items; room = c.env.inside.room; allowed = c.env.inside.allowed }) c.args.other.now c.in-Some.from c.index_mut.result.now (sym found ∙ c.in-Some.is) c.index_mut.ensures.value c.args.name.now c.copy-value.new.self (g.V.Shown.seen c.copy-value.result).value (ap entry_of c.copy-value.ensures.entry) (ap (λ s. s.value) c.copy-value.ensures.copy) room in
      always _ c.give.result (rw (← c.env.view_is, ← did.text) (sym (append-nil c.args.text.now.items)));
  kept = grind (arith, common_steps);
  most = grind (arith, common_steps);
  costs = grind (arith, common_steps);
  bare = (λ bare none.
      let found = rw c.deref.ensures.value at c.find.ensures in
      let names = rw (← c.env.view_is) at bare in
      let place = sym found ∙ c.in-Some.is in
      let one : 1 ≤ c.args.h.now.spare = omega (arith, c.requires.ready.spare) in
      let seen-new = ap (λ e. e.seen) c.copy-value.ensures.entry in
      let old = found-bare g.V.Shown.counted c.args.other.now c.env.inside.names.items c.in-Some.from c.index_mut.result.now place c.index_mut.ensures.value names in
      let new : units g.V.Shown.counted c.copy-value.new.self.seen ≡ 0 = rw seen-new old in
      let copy : units g.V.Shown.counted (g.V.Shown.seen c.copy-value.result) ≡ 0 = rw c.copy-value.ensures.copy old in
      let given = c.give.ensures.bare (bare-set g.V.Shown.counted c.env.inside.names.items c.in-Some.from c.copy-value.new.self names new) copy in
      on-ok _ _ c.give.result given (λ done. rw (← c.env.view_is) (shared-bare g.V.Shown.counted c.args.other.now c.env.inside.names.items c.in-Some.from c.index_mut.result.now place c.index_mut.ensures.value names c.copy-value.new.self c.give.new.self.names c.args.h.now c.give.new.h one (rw (← c.copy-value.ensures.spent) done))));
}

pub returns-clause-there : goal.returns-clause-there
returns-clause-there g c = λ one two.
    let found = rw c.deref.ensures.value at c.find.ensures in
    let still = still-there c.args.other.now c.env.inside.names.items c.in-Some.from c.index_mut.result.now (sym found ∙ c.in-Some.is) c.index_mut.ensures.value c.args.name.now c.copy-value.new.self (ap (λ e. e.name) c.copy-value.ensures.entry) in
    let first = rw (← c.env.view_is) at one in
    c.give.ensures.there (rw still first)
