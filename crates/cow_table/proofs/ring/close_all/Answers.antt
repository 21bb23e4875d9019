use Rattle.std.proofs.Common.{ℕ, ◌+◌, List, Option, sym, ap, subst, ◌∙◌, arith}
use Rattle.std.specs.Prelude.{option_map}
use Rattle.cow_table.specs.Pairs.{Pair}
use Rattle.cow_table.specs.Ring.{seen, cells, relabelled, shut}
use Rattle.cow_table.proofs.Probes.{length-cells, cells-set, cell-at}
use Rattle.cow_table.proofs.Relabels.{Mapped, mapped-more, mapped-all}
use Rattle.cow_table.proofs.ring.close_all.Goals as goal

pub loop-k-preserved : goal.loop-k-preserved
loop-k-preserved c =
    let bs = c.loop-k.buckets in
    let k : ℕ = c.loop-k.k in
    subst (λ (x : List (Option Pair)). Mapped (relabelled (shut c.args.i)) (cells c.args.buckets.now) x (k + 1)) (sym (cells-set bs k c.closed.result))
    (mapped-more (relabelled (shut c.args.i)) (cells c.args.buckets.now) (cells bs) k (seen c.closed.result) (omega (arith, length-cells c.args.buckets.now, c.loop-k-test.true)) c.loop-k.invariant
    (c.closed.ensures ∙ ap (λ (x : Option Pair). option_map (relabelled (shut c.args.i)) x) (sym (cell-at bs k (record { hash = 0; position = 0 }) (omega (arith, c.loop-k.auto.buckets, c.loop-k-test.true))))))

pub returns : goal.returns
returns c = mapped-all (relabelled (shut c.args.i)) (cells c.args.buckets.now) (cells c.loop-k.buckets) c.loop-k.k c.loop-k.invariant (omega (arith, length-cells c.args.buckets.now, c.loop-k-test.false, c.loop-k.auto.k-end))
