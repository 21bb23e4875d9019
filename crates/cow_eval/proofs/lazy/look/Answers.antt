use Rattle.std.proofs.Common.{◌≡◌, true, Ok, sym, ◌∙◌, ap, subst, w64}
use Rattle.std.specs.Prelude.{All}
use Rattle.std.proofs.lemmas.Int.{to_z-of_z}
use Rattle.std.proofs.lemmas.List.Elements.{All-set}
use Rattle.std.proofs.lemmas.Result.{err_from_is_err_and}
use Rattle.cow_model.specs.declared.refusal.Refusal.TheVariants.{NoName, WrongKind, NoRule}
use Rattle.cow_views.specs.Views.{has_views}
use Rattle.cow_eval.specs.Entries.{IsKept, entry_of}
use Rattle.cow_eval.specs.Envs.{SeenEnv, entry_in}
use Rattle.cow_eval.proofs.Looking.{named-by, lent-asked, lent-shape, lent-shapes, look-next, lost-does, nameless, none-asked, not-there, refused-does, ruleless, ruleless-asked, same-value, shown-does, unshown-does, viewless, viewless-asked}
use Rattle.cow_eval.proofs.Places.{there}
use Rattle.cow_eval.proofs.Results.{always}
use Rattle.cow_eval.proofs.lazy.look.Goals as goal

-- ---- the name isn't there

pub returns-in_default-clause-asked : goal.returns-in_default-clause-asked
returns-in_default-clause-asked g c =
    let before : SeenEnv = record { names = c.env.inside.names.items; room = c.env.inside.room; allowed = c.env.inside.allowed } in
    let none = sym (rw c.deref.ensures.value at c.find.ensures) ∙ c.in_default.is in
    always _ c.refuse.result (rw (← c.env.view_is) (none-asked _ c.args.i c.args.verb (entry_in c.args.name.now before) (not-there c.args.name.now before none) _))

pub returns-in_default-clause-step : goal.returns-in_default-clause-step
returns-in_default-clause-step g c =
    let before : SeenEnv = record { names = c.env.inside.names.items; room = c.env.inside.room; allowed = c.env.inside.allowed } in
    let none = sym (rw c.deref.ensures.value at c.find.ensures) ∙ c.in_default.is in
    rw (← c.env.view_is) (refused-does g.V.Shown.counted _ before NoName c.args.text.now.items c.refuse.new.text.items c.args.h.now c.refuse.result (nameless before c.args.name.now _ c.args.i c.args.verb none) c.refuse.ensures.ok c.refuse.ensures.err)

pub returns-in_default-clause-next : goal.returns-in_default-clause-next
returns-in_default-clause-next g c = λ n ready.
    let did = returns-in_default-clause-step g c in
    look-next n c.args.env.now _ c.args.h.now _ _ c.args.name.now c.args.i c.args.verb (subst (λ (v : SeenEnv). All IsKept v.names) c.env.view_is c.env.invariant) ready did.costs.falls _ did.env

-- ---- the value has no views

pub returns-then-not-has_views-clause-asked : goal.returns-then-not-has_views-clause-asked
returns-then-not-has_views-clause-asked g c =
    let before : SeenEnv = record { names = c.env.inside.names.items; room = c.env.inside.room; allowed = c.env.inside.allowed } in
    let place = sym (rw c.deref.ensures.value at c.find.ensures) ∙ c.in-Some.is in
    let none = sym c.has_views.ensures ∙ c.if-not-has_views.true in
    let read = (there c.args.name.now before.names c.in-Some.at c.index.result.now place c.index.ensures).read in
    always _ c.refuse-then-not-has_views.result (rw (← c.env.view_is) (viewless-asked _ c.args.i c.args.verb (entry_in c.args.name.now before) (entry_of c.index.result.now) read none _))

pub returns-then-not-has_views-clause-step : goal.returns-then-not-has_views-clause-step
returns-then-not-has_views-clause-step g c =
    let before : SeenEnv = record { names = c.env.inside.names.items; room = c.env.inside.room; allowed = c.env.inside.allowed } in
    let place = sym (rw c.deref.ensures.value at c.find.ensures) ∙ c.in-Some.is in
    let none = sym c.has_views.ensures ∙ c.if-not-has_views.true in
    let r = c.refuse-then-not-has_views in
    rw (← c.env.view_is) (refused-does g.V.Shown.counted _ before WrongKind c.args.text.now.items r.new.text.items c.args.h.now r.result (viewless before c.args.name.now c.in-Some.at c.index.result.now place c.index.ensures _ c.args.i c.args.verb none) r.ensures.ok r.ensures.err)

pub returns-then-not-has_views-clause-next : goal.returns-then-not-has_views-clause-next
returns-then-not-has_views-clause-next g c = λ n ready.
    let did = returns-then-not-has_views-clause-step g c in
    look-next n c.args.env.now _ c.args.h.now _ _ c.args.name.now c.args.i c.args.verb (subst (λ (v : SeenEnv). All IsKept v.names) c.env.view_is c.env.invariant) ready did.costs.falls _ did.env

-- ---- the number names no rule

pub returns-in_default-rule_at-clause-asked : goal.returns-in_default-rule_at-clause-asked
returns-in_default-rule_at-clause-asked g c =
    let before : SeenEnv = record { names = c.env.inside.names.items; room = c.env.inside.room; allowed = c.env.inside.allowed } in
    let place = sym (rw c.deref.ensures.value at c.find.ensures) ∙ c.in-Some.is in
    let views = sym c.has_views.ensures ∙ c.if-not-has_views.false in
    let none = sym (rw (to_z-of_z w64 c.args.i c.ranges.i) at c.rule_at.ensures.place) ∙ c.in_default-rule_at.is in
    let read = (there c.args.name.now before.names c.in-Some.at c.index.result.now place c.index.ensures).read in
    always _ c.refuse-in_default-rule_at.result (rw (← c.env.view_is) (ruleless-asked _ c.args.i c.args.verb (entry_in c.args.name.now before) (entry_of c.index.result.now) read views (named-by c.args.rules.now (λ z. (goal.Rule-dyn g (z.vtable, z.value)).shape_of z.value) c.args.i _ none) _))

pub returns-in_default-rule_at-clause-step : goal.returns-in_default-rule_at-clause-step
returns-in_default-rule_at-clause-step g c =
    let before : SeenEnv = record { names = c.env.inside.names.items; room = c.env.inside.room; allowed = c.env.inside.allowed } in
    let place = sym (rw c.deref.ensures.value at c.find.ensures) ∙ c.in-Some.is in
    let views = sym c.has_views.ensures ∙ c.if-not-has_views.false in
    let none = sym (rw (to_z-of_z w64 c.args.i c.ranges.i) at c.rule_at.ensures.place) ∙ c.in_default-rule_at.is in
    let r = c.refuse-in_default-rule_at in
    rw (← c.env.view_is) (refused-does g.V.Shown.counted _ before NoRule c.args.text.now.items r.new.text.items c.args.h.now r.result (ruleless before c.args.name.now c.in-Some.at c.index.result.now place c.index.ensures _ c.args.i c.args.verb views (named-by c.args.rules.now (λ z. (goal.Rule-dyn g (z.vtable, z.value)).shape_of z.value) c.args.i _ none)) r.ensures.ok r.ensures.err)

pub returns-in_default-rule_at-clause-next : goal.returns-in_default-rule_at-clause-next
returns-in_default-rule_at-clause-next g c = λ n ready.
    let did = returns-in_default-rule_at-clause-step g c in
    look-next n c.args.env.now _ c.args.h.now _ _ c.args.name.now c.args.i c.args.verb (subst (λ (v : SeenEnv). All IsKept v.names) c.env.view_is c.env.invariant) ready did.costs.falls _ did.env

-- ---- the rule is asked

pub invariant_of-env : goal.invariant_of-env
invariant_of-env g c = All-set IsKept c.env.inside.names.items c.in-Some.at c.look.new.self c.look.ensures.kept c.env.invariant

pub invariant_of-env-in-Some-2 : goal.invariant_of-env-in-Some-2
invariant_of-env-in-Some-2 g c = All-set IsKept c.env.inside.names.items c.in-Some.at c.look.new.self c.look.ensures.kept c.env.invariant

pub invariant_of-env-in-None : goal.invariant_of-env-in-None
invariant_of-env-in-None g c = All-set IsKept c.env.inside.names.items c.in-Some.at c.look.new.self c.look.ensures.kept c.env.invariant

pub returns-in_err-left-clause-shapes : goal.returns-in_err-left-clause-shapes
returns-in_err-left-clause-shapes g c = lent-shapes c.args.rules.now (λ z. (goal.Rule-dyn g (z.vtable, z.value)).shape_of z.value) c.in-Some-rule_at.place c.look.new.rule c.index-rules-place.result c.look.ensures.shape

pub returns-in-Some-2-clause-shapes : goal.returns-in-Some-2-clause-shapes
returns-in-Some-2-clause-shapes g c = lent-shapes c.args.rules.now (λ z. (goal.Rule-dyn g (z.vtable, z.value)).shape_of z.value) c.in-Some-rule_at.place c.look.new.rule c.index-rules-place.result c.look.ensures.shape

pub returns-in-None-clause-shapes : goal.returns-in-None-clause-shapes
returns-in-None-clause-shapes g c = lent-shapes c.args.rules.now (λ z. (goal.Rule-dyn g (z.vtable, z.value)).shape_of z.value) c.in-Some-rule_at.place c.look.new.rule c.index-rules-place.result c.look.ensures.shape

pub returns-in_err-left-clause-step : goal.returns-in_err-left-clause-step
returns-in_err-left-clause-step g c =
    let before : SeenEnv = record { names = c.env.inside.names.items; room = c.env.inside.room; allowed = c.env.inside.allowed } in
    let place = sym (rw c.deref.ensures.value at c.find.ensures) ∙ c.in-Some.is in
    let e = c.index_mut-entry.result.now in
    let is = c.index_mut-entry.ensures.value in
    let one = same-value c.args.name.now before.names c.in-Some.at c.index.result.now e place c.index.ensures is in
    let views = subst (λ v. has_views v ≡ true) one (sym c.has_views.ensures ∙ c.if-not-has_views.false) in
    let named = sym (rw (to_z-of_z w64 c.args.i c.ranges.i) at c.rule_at.ensures.place) ∙ c.in-Some-rule_at.is in
    let k = c.in-Some-rule_at.place in
    let rule = c.index-rules-place.result in
    let inside = c.in-Some-rule_at.ensures.within in
    let refused = err_from_is_err_and c.from_residual.result c.from_residual.ensures.1 in
    rw (refused.1, ← c.env.view_is) (lost-does g.V.Shown.counted before c.args.name.now c.in-Some.at e c.look.new.self place is _ c.args.i c.args.verb views k (named-by c.args.rules.now (λ z. (goal.Rule-dyn g (z.vtable, z.value)).shape_of z.value) c.args.i _ named) _ (lent-shape c.args.rules.now (λ z. (goal.Rule-dyn g (z.vtable, z.value)).shape_of z.value) k c.look.new.rule rule inside) (ap entry_of c.look.ensures.entry) c.view_cost.result c.view_cost.ensures.cost c.look.ensures.costs c.args.text.now.items c.look.new.text.items refused.0 c.in_err-left.ensures.err)

pub returns-in-Some-2-clause-asked : goal.returns-in-Some-2-clause-asked
returns-in-Some-2-clause-asked g c =
    let before : SeenEnv = record { names = c.env.inside.names.items; room = c.env.inside.room; allowed = c.env.inside.allowed } in
    let place = sym (rw c.deref.ensures.value at c.find.ensures) ∙ c.in-Some.is in
    let e = c.index_mut-entry.result.now in
    let is = c.index_mut-entry.ensures.value in
    let one = same-value c.args.name.now before.names c.in-Some.at c.index.result.now e place c.index.ensures is in
    let views = subst (λ v. has_views v ≡ true) one (sym c.has_views.ensures ∙ c.if-not-has_views.false) in
    let named = sym (rw (to_z-of_z w64 c.args.i c.ranges.i) at c.rule_at.ensures.place) ∙ c.in-Some-rule_at.is in
    let k = c.in-Some-rule_at.place in
    let rule = c.index-rules-place.result in
    let inside = c.in-Some-rule_at.ensures.within in
    let read = (there c.args.name.now before.names c.in-Some.at e place is).read in
    rw (← c.env.view_is) (lent-asked c.args.rules.now (λ z. (goal.Rule-dyn g (z.vtable, z.value)).shape_of z.value) k c.look.new.rule rule inside (λ z. (goal.Rule-dyn g (z.vtable, z.value)).asked_of z.value) c.args.i c.args.verb (entry_in c.args.name.now before) (entry_of e) read views named c.in_ok-left.ensures.asked)

pub returns-in-Some-2-clause-step : goal.returns-in-Some-2-clause-step
returns-in-Some-2-clause-step g c =
    let before : SeenEnv = record { names = c.env.inside.names.items; room = c.env.inside.room; allowed = c.env.inside.allowed } in
    let place = sym (rw c.deref.ensures.value at c.find.ensures) ∙ c.in-Some.is in
    let e = c.index_mut-entry.result.now in
    let is = c.index_mut-entry.ensures.value in
    let one = same-value c.args.name.now before.names c.in-Some.at c.index.result.now e place c.index.ensures is in
    let views = subst (λ v. has_views v ≡ true) one (sym c.has_views.ensures ∙ c.if-not-has_views.false) in
    let named = sym (rw (to_z-of_z w64 c.args.i c.ranges.i) at c.rule_at.ensures.place) ∙ c.in-Some-rule_at.is in
    let k = c.in-Some-rule_at.place in
    let rule = c.index-rules-place.result in
    let inside = c.in-Some-rule_at.ensures.within in
    let fits = rw c.in-Some-2.is at c.in_ok-left.ensures.told.fits in
    rw (← c.env.view_is) (shown-does g.V.Shown.counted before c.args.name.now c.in-Some.at e c.look.new.self place is _ c.args.i c.args.verb views k (named-by c.args.rules.now (λ z. (goal.Rule-dyn g (z.vtable, z.value)).shape_of z.value) c.args.i _ named) _ (lent-shape c.args.rules.now (λ z. (goal.Rule-dyn g (z.vtable, z.value)).shape_of z.value) k c.look.new.rule rule inside) (ap entry_of c.look.ensures.entry) c.view_cost.result c.view_cost.ensures.cost c.look.ensures.costs c.args.text.now.items c.look.new.text.items c.in-Some-2.left fits.0 fits.1)

pub returns-in-None-clause-asked : goal.returns-in-None-clause-asked
returns-in-None-clause-asked g c =
    let before : SeenEnv = record { names = c.env.inside.names.items; room = c.env.inside.room; allowed = c.env.inside.allowed } in
    let place = sym (rw c.deref.ensures.value at c.find.ensures) ∙ c.in-Some.is in
    let e = c.index_mut-entry.result.now in
    let is = c.index_mut-entry.ensures.value in
    let one = same-value c.args.name.now before.names c.in-Some.at c.index.result.now e place c.index.ensures is in
    let views = subst (λ v. has_views v ≡ true) one (sym c.has_views.ensures ∙ c.if-not-has_views.false) in
    let named = sym (rw (to_z-of_z w64 c.args.i c.ranges.i) at c.rule_at.ensures.place) ∙ c.in-Some-rule_at.is in
    let k = c.in-Some-rule_at.place in
    let rule = c.index-rules-place.result in
    let inside = c.in-Some-rule_at.ensures.within in
    let read = (there c.args.name.now before.names c.in-Some.at e place is).read in
    always _ c.refuse-in-None.result (rw (← c.env.view_is) (lent-asked c.args.rules.now (λ z. (goal.Rule-dyn g (z.vtable, z.value)).shape_of z.value) k c.look.new.rule rule inside (λ z. (goal.Rule-dyn g (z.vtable, z.value)).asked_of z.value) c.args.i c.args.verb (entry_in c.args.name.now before) (entry_of e) read views named c.in_ok-left.ensures.asked))

pub returns-in-None-clause-step : goal.returns-in-None-clause-step
returns-in-None-clause-step g c =
    let before : SeenEnv = record { names = c.env.inside.names.items; room = c.env.inside.room; allowed = c.env.inside.allowed } in
    let place = sym (rw c.deref.ensures.value at c.find.ensures) ∙ c.in-Some.is in
    let e = c.index_mut-entry.result.now in
    let is = c.index_mut-entry.ensures.value in
    let one = same-value c.args.name.now before.names c.in-Some.at c.index.result.now e place c.index.ensures is in
    let views = subst (λ v. has_views v ≡ true) one (sym c.has_views.ensures ∙ c.if-not-has_views.false) in
    let named = sym (rw (to_z-of_z w64 c.args.i c.ranges.i) at c.rule_at.ensures.place) ∙ c.in-Some-rule_at.is in
    let k = c.in-Some-rule_at.place in
    let rule = c.index-rules-place.result in
    let inside = c.in-Some-rule_at.ensures.within in
    let longer = rw c.in-None.is at c.in_ok-left.ensures.told.longer in
    rw (← c.env.view_is) (unshown-does g.V.Shown.counted before c.args.name.now c.in-Some.at e c.look.new.self place is _ c.args.i c.args.verb views k (named-by c.args.rules.now (λ z. (goal.Rule-dyn g (z.vtable, z.value)).shape_of z.value) c.args.i _ named) _ (lent-shape c.args.rules.now (λ z. (goal.Rule-dyn g (z.vtable, z.value)).shape_of z.value) k c.look.new.rule rule inside) (ap entry_of c.look.ensures.entry) c.view_cost.result c.view_cost.ensures.cost c.look.ensures.costs c.args.text.now.items c.look.new.text.items c.refuse-in-None.new.text.items c.refuse-in-None.result longer.0 longer.1 c.refuse-in-None.ensures.ok c.refuse-in-None.ensures.err)

pub returns-in-Some-2-clause-next : goal.returns-in-Some-2-clause-next
returns-in-Some-2-clause-next g c = λ n ready.
    let did = returns-in-Some-2-clause-step g c in
    look-next n c.args.env.now _ c.args.h.now c.look.new.h _ c.args.name.now c.args.i c.args.verb (subst (λ (v : SeenEnv). All IsKept v.names) c.env.view_is c.env.invariant) ready did.costs.falls (Ok tt) did.env

pub returns-in-None-clause-next : goal.returns-in-None-clause-next
returns-in-None-clause-next g c = λ n ready.
    let did = returns-in-None-clause-step g c in
    look-next n c.args.env.now _ c.args.h.now c.look.new.h _ c.args.name.now c.args.i c.args.verb (subst (λ (v : SeenEnv). All IsKept v.names) c.env.view_is c.env.invariant) ready did.costs.falls _ did.env
