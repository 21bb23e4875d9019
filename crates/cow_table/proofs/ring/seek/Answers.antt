use Rattle.std.proofs.Common.{◌≡◌, ◌≢◌, ℕ, ◌<◌, length, get_or, Some, None, refl, sym, ap, ◌∙◌, arith, true}
use Rattle.cow_table.specs.Pairs.{Pair}
use Rattle.cow_table.specs.Ring.{cells}
use Rattle.cow_table.proofs.Probes.{passed-none, passed-more, passed-falls, there, holds-is, holds-some, length-cells, real_position}
use Rattle.cow_table.proofs.ring.seek.Goals as goal

pub probe-init : goal.probe-init
probe-init c = passed-none _ _ _ c.home-start.ensures.within

pub returns-then-is_pair-clause-value : goal.returns-then-is_pair-clause-value
returns-then-is_pair-clause-value c =
    let e = c.if-is_pair.ensures.0 refl in
    let real = real_position c.args.buckets.now c.args.hash c.args.position c.requires.there in
    holds-some c.args.buckets.now c.probe.at c.probe.invariant.within (λ z. real (sym e.1 ∙ z)) ∙ ap (λ (p : Pair). Some p) (λ i. record { hash = e.0 i; position = e.1 i })

missed : (c : goal.After-next-at) → get_or (cells c.args.buckets.now) c.probe.at (None) ≢ Some (record { hash = c.args.hash; position = c.args.position })
missed c s = let a = holds-is c.args.buckets.now c.probe.at c.probe.invariant.within _ s in let y : c.is_pair.result ≡ true = c.is_pair.ensures.1 (a.1, a.2) in let z = c.if-is_pair.false in cc

everywhere : (c : goal.After-next-at) → ((j : ℕ) → j < length c.args.buckets.now → get_or (cells c.args.buckets.now) j None ≢ Some (record { hash = c.args.hash; position = c.args.position })) → ⊥
everywhere c every = there (cells c.args.buckets.now) c.args.hash c.args.position c.requires.there (λ j p. every j (omega (arith, length-cells c.args.buckets.now)))

pub probe-smaller : goal.probe-smaller
probe-smaller c = passed-falls _ _ _ c.home-start.ensures.within _ _ c.probe.invariant (missed c) c.next-at.ensures (everywhere c)

pub probe-preserved : goal.probe-preserved
probe-preserved c = passed-more _ _ _ c.home-start.ensures.within _ _ c.probe.invariant (missed c) c.next-at.ensures (everywhere c)
