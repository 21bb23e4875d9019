use Rattle.std.proofs.Common.{List, ap, ◌∙◌, subst}
use Rattle.std.specs.Prelude.{⊤}
use Rattle.cow_model.specs.Canon.{pairs}
use Rattle.cow_model.specs.Flat.{Flat}
use Rattle.cow_model.specs.declared.plain.Literal.{Literal}
use Rattle.cow_members.specs.Ascents.{Ascends}
use Rattle.cow_treeset.specs.TreeSets.{set_of}
use Rattle.cow_treeset.proofs.Tries.{nothing, set-walked, settled-walked, distinct-keys}
use Rattle.cow_treeset.proofs.set.TreeSet.walked.Goals as goal

pub returns-in_err-walk-clause-distinct : goal.returns-in_err-walk-clause-distinct
returns-in_err-walk-clause-distinct g c = subst (λ (f : Flat (List Literal)). Ascends f.value) c.self.view_is (distinct-keys (pairs (g.C.Level.shape c.self.inside.root.value)) c.self.invariant.3.distinct)

pub returns-clause-value : goal.returns-clause-value
returns-clause-value g c =
    let a = c.in_ok-walk.ensures.ok in
    set-walked g.K.Item.plain nothing _ _ a.more _ c.new-pairs.ensures.items a.list a.shown
    ∙ ap (λ n. set_of (pairs (g.C.Level.shape n))) c.get.ensures ∙ ap (λ (f : Flat (List Literal)). f.value) c.self.view_is

pub returns-clause-settled : goal.returns-clause-settled
returns-clause-settled g c =
    let a = c.in_ok-walk.ensures.ok in
    settled-walked g.K.Item.IsSettled (λ _. ⊤) _ _ a.more c.new-pairs.ensures.items a.list a.settled

pub returns-clause-distinct : goal.returns-clause-distinct
returns-clause-distinct g c = subst (λ (f : Flat (List Literal)). Ascends f.value) c.self.view_is (distinct-keys (pairs (g.C.Level.shape c.self.inside.root.value)) c.self.invariant.3.distinct)
