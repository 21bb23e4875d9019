use Rattle.std.proofs.Common.{List, ap, ◌∙◌, subst, rules}
use Rattle.std.specs.List.{list_all}
use Rattle.cow_model.specs.Canon.{pairs}
use Rattle.cow_model.specs.Flat.{Flat}
use Rattle.cow_model.specs.declared.plain.Literal.{Literal}
use Rattle.cow_members.specs.Ascents.{Ascends}
use Rattle.cow_members.specs.Sets.{kept_by}
use Rattle.cow_treeset.proofs.Tries.{all-set, distinct-keys}
use Rattle.cow_treeset.proofs.set.TreeSet.all_stay.Goals as goal

pub returns-clause-value : goal.returns-clause-value
returns-clause-value g c =
    let t = kept_by c.args.keep c.args.other.now.value in
    c.all.ensures (λ a b. t a) (λ k v r h. search rules) ∙ ap (λ n. list_all (λ p. t p.key) (pairs (g.C.Level.shape n))) c.get.ensures
    ∙ all-set t (pairs (g.C.Level.shape c.self.inside.root.value)) ∙ ap (λ (f : Flat (List Literal)). list_all t f.value) c.self.view_is

pub returns-clause-distinct : goal.returns-clause-distinct
returns-clause-distinct g c = (
  subst (λ (f : Flat (List Literal)). Ascends f.value) c.self.view_is (distinct-keys (pairs (g.C.Level.shape c.self.inside.root.value)) c.self.invariant.3.distinct),
  subst (λ (f : Flat (List Literal)). Ascends f.value) c.other.view_is (distinct-keys (pairs (g.C.Level.shape c.other.inside.root.value)) c.other.invariant.3.distinct),
)
