use Rattle.std.proofs.Common.{◌≡◌, ℕ, ◌<◌, List, Option, length, get_or, set, Some, None, sym, ap, subst, ◌∙◌, arith}
use Rattle.cow_table.specs.Pairs.{Pair, Loses}
use Rattle.cow_table.specs.Ring.{cells, pairs_of, IsNext, IsRing, IsNear, HasFree, distance}
use Rattle.cow_table.specs.declared.ring.Bucket.{Bucket}
use Rattle.cow_table.proofs.Probes.{holds-free, length-cells, cells-clear}
use Rattle.cow_table.proofs.Moves.{Shifted, shifted-start, shifted-more, shifted-falls, shifted-ends, shifted-ends-far, loses-by, loses-empty}
use Rattle.std.proofs.lemmas.List.{length-set}
use Rattle.cow_table.proofs.ring.empty.Goals as goal
use Rattle.cow_table.proofs.ring.empty.Goals.{then-bucket-via-then-bucket, then-bucket-via-else-bucket+then-reach-steps}

follows : (c : goal.After-next-at-in-shift) → IsNext (length (cells (set c.args.buckets.now c.args.start (record { hash = 0; position = 4294967295 })))) c.shift.at c.next-at-in-shift.result
follows c = subst (λ n. IsNext n c.shift.at c.next-at-in-shift.result)
    (sym (length-cells (set c.args.buckets.now c.args.start (record { hash = 0; position = 4294967295 })) ∙ length-set c.args.buckets.now c.args.start (record { hash = 0; position = 4294967295 }))) c.next-at-in-shift.ensures

module _ (bs : List Bucket) (start reach : ℕ) (r : IsRing (cells bs)) (free : HasFree (cells bs)) (near : IsNear reach (cells bs)) (within : start < length bs) (e : Pair) (was : get_or (cells bs) start None ≡ Some e) where
  begins : (at : ℕ) → IsNext (length bs) start at → Shifted (length (cells (set bs start (record { hash = 0; position = 4294967295 })))) (cells (set bs start (record { hash = 0; position = 4294967295 }))) (cells (set bs start (record { hash = 0; position = 4294967295 }))) start start at reach
  begins at follows =
      let same = cells-clear bs start in
      let n = length-cells bs in
      subst (λ (x : List (Option Pair)). Shifted (length x) x x start start at reach) (sym same)
      (subst (λ m. Shifted m (set (cells bs) start None) (set (cells bs) start None) start start at reach) (sym (ap length (sym same) ∙ length-cells (set bs start (record { hash = 0; position = 4294967295 })) ∙ length-set bs start (record { hash = 0; position = 4294967295 }) ∙ sym n))
      (shifted-start (cells bs) start at reach e r free near (omega (arith, n)) was (subst (λ m. IsNext m start at) (sym n) follows)))

pub shift-init : goal.shift-init
shift-init c = begins c.args.buckets.now c.args.start c.args.reach c.requires.ring c.requires.free c.requires.near c.requires.within c.requires.filled.0 c.requires.filled.1 c.next-at.result c.next-at.ensures

pub returns-then-bucket-clause-ring : goal.returns-then-bucket-clause-ring
returns-then-bucket-clause-ring c =
    let s = c.shift.invariant in
    elim c.then-bucket.branch [
      | then-bucket-via-then-bucket w ↦ shifted-ends _ _ (cells c.shift.buckets) c.args.start c.shift.hole c.shift.at c.args.reach s (holds-free c.shift.buckets c.shift.at (omega (arith, s.long, length-cells c.shift.buckets, s.shifting.passed.within)) w.if-bucket.true)
      | then-bucket-via-else-bucket+then-reach-steps w ↦ shifted-ends-far _ _ (cells c.shift.buckets) c.args.start c.shift.hole c.shift.at c.args.reach s
          (subst (λ n. c.args.reach < distance n c.shift.hole c.shift.at)
          (sym (length-cells (set c.args.buckets.now c.args.start (record { hash = 0; position = 4294967295 })) ∙ length-set c.args.buckets.now c.args.start (record { hash = 0; position = 4294967295 })))
          (omega (arith, w.steps.ensures, w.if-reach-steps.true)))
    ]

pub returns-then-bucket-clause-pairs : goal.returns-then-bucket-clause-pairs
returns-then-bucket-clause-pairs c e was =
    let bs = c.args.buckets.now in
    loses-by e (pairs_of (cells bs)) (pairs_of (cells (set bs c.args.start (record { hash = 0; position = 4294967295 })))) (pairs_of (cells c.shift.buckets))
    (subst (λ (x : List (Option Pair)). Loses e.position (pairs_of (cells bs)) (pairs_of x)) (sym (cells-clear bs c.args.start)) (loses-empty (cells bs) c.args.start e c.requires.ring.apart (omega (arith, length-cells bs, c.requires.within)) was))
    c.shift.invariant.keeps

pub shift-smaller : goal.shift-smaller
shift-smaller c = shifted-falls _ _ (cells c.shift.buckets) (cells c.settle-hole.new.buckets) c.args.start c.shift.hole c.shift.at c.next-at-in-shift.result c.settle-hole.result c.args.reach c.shift.invariant c.settle-hole.ensures (follows c)

pub shift-preserved : goal.shift-preserved
shift-preserved c = shifted-more _ _ (cells c.shift.buckets) (cells c.settle-hole.new.buckets) c.args.start c.shift.hole c.shift.at c.next-at-in-shift.result c.settle-hole.result c.args.reach c.shift.invariant c.settle-hole.ensures (follows c)
