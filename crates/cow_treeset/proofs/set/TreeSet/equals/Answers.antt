use borrow.Author.Tests.{eqb-true, eq-eqb}
use Rattle.std.proofs.Common.{◌≡◌, length, List, sym, ap, ◌∙◌}
use Rattle.cow_model.specs.Canon.{pairs}
use Rattle.cow_model.specs.Flat.{Flat}
use Rattle.cow_model.specs.declared.plain.Literal.{Literal}
use Rattle.cow_treeset.proofs.Combining.{equal-sets, sets-equal}
use Rattle.cow_treeset.proofs.Tries.{length-set}
use Rattle.cow_treeset.proofs.set.TreeSet.equals.Goals as goal

pub returns-then-self-other : goal.returns-then-self-other
returns-then-self-other g c =
    let v = c.args.self.now.value in
    let w = c.args.other.now.value in
    let n : c.self.inside.count ≡ length v = c.self.invariant.4 ∙ sym (length-set (pairs (g.C.Level.shape c.self.inside.root.value))) ∙ ap (λ (f : Flat (List Literal)). length f.value) c.self.view_is in
    let m : c.other.inside.count ≡ length w = c.other.invariant.4 ∙ sym (length-set (pairs (g.C.Level.shape c.other.inside.root.value))) ∙ ap (λ (f : Flat (List Literal)). length f.value) c.other.view_is in
    let apart = c.all_stay.ensures.distinct in
    (λ t. equal-sets v w apart.0 apart.1 (sym n ∙ c.if-self-other.true ∙ m) (sym c.all_stay.ensures.value ∙ t), λ e. c.all_stay.ensures.value ∙ sets-equal v w e)

pub returns-else-self-other : goal.returns-else-self-other
returns-else-self-other g c =
    let a = c.self.inside.count in
    let b = c.other.inside.count in
    let n : a ≡ length c.args.self.now.value = c.self.invariant.4 ∙ sym (length-set (pairs (g.C.Level.shape c.self.inside.root.value))) ∙ ap (λ (f : Flat (List Literal)). length f.value) c.self.view_is in
    let m : b ≡ length c.args.other.now.value = c.other.invariant.4 ∙ sym (length-set (pairs (g.C.Level.shape c.other.inside.root.value))) ∙ ap (λ (f : Flat (List Literal)). length f.value) c.other.view_is in
    (λ t. absurd (c.if-self-other.false (eqb-true a b t)), λ e. eq-eqb a b (n ∙ ap length e ∙ sym m))
