use borrow.Author.Tests.{lt-leb}
use Rattle.std.proofs.Common.{◌≡◌, length, List, sym, ap, ◌∙◌, subst, arith}
use Rattle.cow_model.specs.Canon.{pairs}
use Rattle.cow_model.specs.Flat.{Flat}
use Rattle.cow_model.specs.declared.plain.Literal.{Literal}
use Rattle.cow_members.specs.Ascents.{Ascends}
use Rattle.cow_treeset.proofs.Combining.{subset-fewer}
use Rattle.cow_treeset.proofs.Tries.{distinct-keys, length-set}
use Rattle.cow_treeset.proofs.set.TreeSet.is_subset.Goals as goal

pub returns-then-self-other : goal.returns-then-self-other
returns-then-self-other g c = c.all_stay.ensures.value

pub returns-else-self-other : goal.returns-else-self-other
returns-else-self-other g c =
    let ps = pairs (g.C.Level.shape c.self.inside.root.value) in
    let rs = pairs (g.C.Level.shape c.other.inside.root.value) in
    let n : c.self.inside.count ≡ length c.args.self.now.value = c.self.invariant.4 ∙ sym (length-set ps) ∙ ap (λ (f : Flat (List Literal)). length f.value) c.self.view_is in
    let m : c.other.inside.count ≡ length c.args.other.now.value = c.other.invariant.4 ∙ sym (length-set rs) ∙ ap (λ (f : Flat (List Literal)). length f.value) c.other.view_is in
    let s = subst (λ (f : Flat (List Literal)). Ascends f.value) c.self.view_is (distinct-keys ps c.self.invariant.3.distinct) in
    let t = subst (λ (f : Flat (List Literal)). Ascends f.value) c.other.view_is (distinct-keys rs c.other.invariant.3.distinct) in
    lt-leb c.self.inside.count c.other.inside.count (omega (arith, c.if-self-other.false)) ∙ subset-fewer c.args.self.now.value c.args.other.now.value s t (omega (arith, c.if-self-other.false, n, m))
