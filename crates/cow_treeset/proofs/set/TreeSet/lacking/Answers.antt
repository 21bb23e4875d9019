use Rattle.std.proofs.Common.{◌≡◌, ◌+◌, ◌-◌, ◌^◌, ◌≤◌, ◌<◌, List, Bool, not, false, min, sym, ap, ◌∙◌, subst, rules, arith}
use Rattle.cow_model.specs.Canon.{count_where, pairs}
use Rattle.cow_model.specs.Flat.{Flat}
use Rattle.cow_model.specs.Members.{member}
use Rattle.cow_model.specs.declared.plain.Literal.{Literal}
use Rattle.cow_members.specs.Ascents.{Ascends}
use Rattle.cow_members.specs.Sets.{kept_by, lacking}
use Rattle.cow_treeset.specs.TreeSets.{set_of}
use Rattle.cow_treeset.proofs.Tries.{count-set, distinct-keys, few-pass}
use Rattle.cow_treeset.proofs.set.TreeSet.lacking.Goals as goal

pub returns-clause-value : goal.returns-clause-value
returns-clause-value g c =
    let t : Literal → Bool = kept_by false c.args.self.now.value in
    let ps = pairs (g.C.Level.shape c.other.inside.root.value) in
    let told = c.tally.ensures (λ a b. t a) (λ k v r h. search rules) ∙ ap (λ n. min (count_where (λ p. t p.key) (pairs (g.C.Level.shape n))) (2 ^ 64 - 1)) c.get.ensures in
    let few = few-pass (λ p. t p.key) ps in
    let all = count-set t ps ∙ ap (λ (f : Flat (List Literal)). lacking c.args.self.now.value f.value) c.other.view_is in
    omega (arith, told, few, all, c.other.invariant.4, c.other.invariant.5)

pub returns-clause-distinct : goal.returns-clause-distinct
returns-clause-distinct g c = (
  subst (λ (f : Flat (List Literal)). Ascends f.value) c.self.view_is (distinct-keys (pairs (g.C.Level.shape c.self.inside.root.value)) c.self.invariant.3.distinct),
  subst (λ (f : Flat (List Literal)). Ascends f.value) c.other.view_is (distinct-keys (pairs (g.C.Level.shape c.other.inside.root.value)) c.other.invariant.3.distinct),
)
