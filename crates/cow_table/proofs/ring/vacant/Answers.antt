use Rattle.std.proofs.Common.{◌≢◌, ℕ, ◌<◌, length, get_or, None, arith}
use Rattle.cow_table.specs.Ring.{cells}
use Rattle.cow_table.proofs.Probes.{passed-none, passed-more, passed-falls, holds-filled, open_place, length-cells}
use Rattle.cow_table.proofs.ring.vacant.Goals as goal

pub probe-init : goal.probe-init
probe-init c = passed-none _ _ _ c.home-start.ensures.within

everywhere : (c : goal.After-next-at) → ((j : ℕ) → j < length c.args.buckets.now → get_or (cells c.args.buckets.now) j None ≢ None) → ⊥
everywhere c every = open_place (cells c.args.buckets.now) c.requires.free (λ j p. every j (omega (arith, length-cells c.args.buckets.now)))

pub probe-smaller : goal.probe-smaller
probe-smaller c = passed-falls _ _ _ c.home-start.ensures.within _ _ c.probe.invariant (holds-filled c.args.buckets.now c.probe.at c.probe.invariant.within c.if-bucket.false) c.next-at.ensures (everywhere c)

pub probe-preserved : goal.probe-preserved
probe-preserved c = passed-more _ _ _ c.home-start.ensures.within _ _ c.probe.invariant (holds-filled c.args.buckets.now c.probe.at c.probe.invariant.within c.if-bucket.false) c.next-at.ensures (everywhere c)
