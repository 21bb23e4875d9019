use Rattle.std.proofs.Common.{List, length, sym, subst, ap, ◌∙◌, arith}
use Rattle.std.proofs.lemmas.List.{length-replicate}
use Rattle.cow_table.specs.Ring.{cells, pairs_of, IsRing}
use Rattle.cow_table.specs.declared.ring.Bucket.{Bucket}
use Rattle.cow_table.proofs.Distances.{size_bounds}
use Rattle.cow_table.proofs.Sizes.{limit-below}
use Rattle.cow_table.proofs.Refills.{blank-ring, blank-pairs}
use Rattle.cow_table.proofs.table.Table.wider.Goals as goal

pub refill-reach-requires-clause-to : goal.refill-reach-requires-clause-to
refill-reach-requires-clause-to c = subst (λ (x : List Bucket). IsRing (cells x)) (sym (c.as_mut_slice.ensures.value ∙ c.in-Ok.ensures.items_if_clones_equal (λ y e. e))) (blank-ring c.grown-count.result c.grown-count.ensures.size)

pub refill-reach-requires-clause-empty : goal.refill-reach-requires-clause-empty
refill-reach-requires-clause-empty c = ap (λ (x : List Bucket). pairs_of (cells x)) (c.as_mut_slice.ensures.value ∙ c.in-Ok.ensures.items_if_clones_equal (λ y e. e)) ∙ blank-pairs c.grown-count.result

pub refill-reach-requires-clause-room : goal.refill-reach-requires-clause-room
refill-reach-requires-clause-room c =
    let from = ap (λ (x : List Bucket). length (pairs_of (cells x))) c.as_slice.ensures.value in
    let to = ap (λ (x : List Bucket). length x) (c.as_mut_slice.ensures.value ∙ c.in-Ok.ensures.items_if_clones_equal (λ y e. e)) ∙ length-replicate c.grown-count.result _ in
    let wide = limit-below c.grown-count.result (size_bounds c.grown-count.result c.grown-count.ensures.size).0 in
    omega (arith, from, to, wide, c.grown-count.ensures.enough, c.most.ensures, c.len.ensures, c.self.invariant.load)
