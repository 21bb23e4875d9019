use borrow.Author.Tests.{eqb-true, eq-eqb}
use Rattle.std.proofs.Common.{◌≡◌, ◌∙◌, sym, ap, subst, length, List, rules}
use Rattle.std.specs.List.{list_all}
use Rattle.cow_model.specs.Canon.{pairs}
use Rattle.cow_model.specs.Flat.{Flat}
use Rattle.cow_model.specs.declared.value.Pair.{Pair}
use Rattle.cow_members.specs.Ascents.{Ascends}
use Rattle.cow_dict.specs.Dictionaries.{holds}
use Rattle.cow_dict.specs.Storages.{pair_of, keys}
use Rattle.cow_dict.proofs.Maps.{length-by_key}
use Rattle.cow_treedict.proofs.Trees.{distinct-map, ascends-map, equal-maps, maps-equal}
use Rattle.cow_treedict.proofs.dictionary.TreeDictionary.equals.Goals as goal

pub returns-then-self-other : goal.returns-then-self-other
returns-then-self-other g c =
    let v = c.args.self.now.value in
    let ps = pairs (g.C.Level.shape c.self.inside.root.value) in
    let rs = pairs (g.C.Level.shape c.other.inside.root.value) in
    let up = subst (λ (f : Flat (List Pair)). Ascends (keys f.value)) c.self.view_is (ascends-map ps c.self.invariant.3.distinct) in
    let d = distinct-map rs c.other.invariant.3.distinct in
    let n : length v ≡ length rs = sym (ap (λ (f : Flat (List Pair)). length f.value) c.self.view_is) ∙ length-by_key ps ∙ sym c.self.invariant.4 ∙ c.if-self-other.true ∙ c.other.invariant.4 in
    let all : c.all.result ≡ list_all (holds c.args.self.now.value) (pairs (g.C.Level.shape c.other.inside.root.value)) =
    c.all.ensures (λ a b. holds v (pair_of a b)) (λ k w r h. search rules) ∙ ap (λ x. list_all (holds v) (pairs (g.C.Level.shape x))) c.get.ensures in
    let same = ap (λ (f : Flat (List Pair)). f.value) c.other.view_is in
    (λ t. equal-maps v rs up d n (sym all ∙ t) ∙ same, λ e. all ∙ maps-equal v rs up d (e ∙ sym same))

pub returns-else-self-other : goal.returns-else-self-other
returns-else-self-other g c =
    let a = c.self.inside.count in
    let b = c.other.inside.count in
    let one = c.self.invariant.4 ∙ sym (length-by_key (pairs (g.C.Level.shape c.self.inside.root.value))) ∙ ap (λ (f : Flat (List Pair)). length f.value) c.self.view_is in
    let two = c.other.invariant.4 ∙ sym (length-by_key (pairs (g.C.Level.shape c.other.inside.root.value))) ∙ ap (λ (f : Flat (List Pair)). length f.value) c.other.view_is in
    (λ t. absurd (c.if-self-other.false (eqb-true a b t)), λ e. eq-eqb a b (one ∙ ap length e ∙ sym two))
