use borrow.Author.Tests.{eqb-true, eq-eqb}
use Rattle.std.proofs.Common.{◌≡◌, length, List, sym, ap, ◌∙◌, arith}
use Rattle.std.proofs.lemmas.List.{nil_from_length}
use Rattle.cow_model.specs.Canon.{pairs}
use Rattle.cow_model.specs.Flat.{Flat}
use Rattle.cow_model.specs.declared.plain.Literal.{Literal}
use Rattle.cow_treeset.proofs.Tries.{length-set}
use Rattle.cow_treeset.proofs.set.TreeSet.is_empty.Goals as goal

pub returns : goal.returns
returns g c =
    let n : c.self.inside.count ≡ length c.args.self.now.value = c.self.invariant.4 ∙ sym (length-set (pairs (g.C.Level.shape c.self.inside.root.value))) ∙ ap (λ (f : Flat (List Literal)). length f.value) c.self.view_is in
    (λ t. nil_from_length c.args.self.now.value (omega (arith, n, eqb-true c.self.inside.count 0 t)), λ e. eq-eqb c.self.inside.count 0 (omega (arith, n, ap length e)))
