use Rattle.std.proofs.Common.{false, ap, sym, ◌∙◌}
use Rattle.std.proofs.lemmas.List.Elements.{All-set}
use Rattle.cow_eval.specs.Entries.{SeenEntry, IsKept}
use Rattle.cow_eval.specs.Envs.{SeenEnv}
use Rattle.cow_eval.proofs.Handing.{lent}
use Rattle.cow_eval.proofs.env.Env.lend.Goals as goal

pub returns-clause-some : goal.returns-clause-some
returns-clause-some g c =
    let before : SeenEnv = record { names = c.self.inside.names.items; room = c.self.inside.room; allowed = c.self.inside.allowed } in
    let found = rw c.deref.ensures.value at c.find.ensures in
    let named = c.from_vec.ensures ∙ c.in_ok-bytes.ensures.items in
    let new = c.new.ensures ∙ (ap {B = SeenEntry} (λ n. record { name = n; seen = g.V.Shown.seen c.copy-value.result; flag = false }) named ∙ ap {B = SeenEntry} (λ s. record { name = c.args.name.now; seen = s; flag = false }) c.copy-value.ensures.copy) in
    rw (← c.self.view_is) (lent g.V.Shown.counted c.args.name.now before c.in-Some.at c.index_mut.result.now (sym found ∙ c.in-Some.is) c.index_mut.ensures.value c.copy-value.new.self c.new.result c.copy-value.ensures.entry new)

pub invariant_of-self : goal.invariant_of-self
invariant_of-self g c =
    let small = rw c.copy-value.ensures.copy at c.copy-value.ensures.small in
    let new : IsKept c.copy-value.new.self = rw c.copy-value.ensures.entry (record { alone = λ flag. cc; small = small }) in
    All-set IsKept c.self.inside.names.items c.in-Some.at c.copy-value.new.self new c.self.invariant
