use Rattle.std.proofs.Common.{ℕ, length, get_or, Some, refl, sym, ap, ◌∙◌, arith}
use Rattle.std.specs.Prelude.{option_map}
use Rattle.cow_buf.specs.Places.{place}
use Rattle.cow_table.specs.Ring.{cells}
use Rattle.cow_table.specs.declared.ring.Bucket.{Bucket}
use Rattle.cow_table.proofs.Distances.{distance_self}
use Rattle.cow_table.proofs.Probes.{passed-none, passed-falls, holds-free, holds-some, length-cells}
use Rattle.cow_table.proofs.Searches.{missed-everywhere, missed-by, probing-more, absent-by, absent-by-beyond, bucket-there, hash-mine, map-twice}
use Rattle.cow_table.proofs.table.search.Goals as goal

pub probe-init : goal.probe-init
probe-init g c = record { passed = passed-none _ _ _ c.home-start.ensures.within; taken = omega (arith, distance_self (length c.args.buckets.now) c.home-start.result c.home-start.ensures.within) }

pub returns-then-bucket-clause-absent : goal.returns-then-bucket-clause-absent
returns-then-bucket-clause-absent g c =
    absent-by (λ p. option_map g.K.Item.plain (place c.args.keys.now p)) (g.E.Equivalent.sought c.args.key.now) g.K.Key.hash_of c.args.buckets.now c.args.hash c.home-start.result c.probe.at c.requires.ring
    (holds-free c.args.buckets.now c.probe.at c.probe.invariant.passed.within c.if-bucket.true) c.home-start.ensures.value c.requires.hash c.probe.invariant.passed
    (λ p h there. map-twice g.K.Item.plain g.K.Key.hash_of (place c.args.keys.now p) h (c.requires.keys p h there))

pub fits-requires-clause-keys : goal.fits-requires-clause-keys
fits-requires-clause-keys g c =
    let bs = c.args.buckets.now in
    let b : Bucket = get_or bs c.probe.at (record { hash = 0; position = 0 }) in
    c.requires.keys b.position b.hash (bucket-there (cells bs) c.probe.at (record { hash = b.hash; position = b.position }) c.requires.ring.apart (omega (arith, length-cells bs, c.probe.invariant.passed.within)) (holds-some bs c.probe.at c.probe.invariant.passed.within c.if-bucket.false))

pub returns-then-fits-clause-there : goal.returns-then-fits-clause-there
returns-then-fits-clause-there g c =
    let bs = c.args.buckets.now in
    let b : Bucket = get_or bs c.probe.at (record { hash = 0; position = 0 }) in
    let there = bucket-there (cells bs) c.probe.at (record { hash = b.hash; position = b.position }) c.requires.ring.apart (omega (arith, length-cells bs, c.probe.invariant.passed.within)) (holds-some bs c.probe.at c.probe.invariant.passed.within c.if-bucket.false) in
    let mine = hash-mine g.K.Key.hash_of (option_map g.K.Item.plain (place c.args.keys.now b.position)) (g.E.Equivalent.sought c.args.key.now) b.hash
    (map-twice g.K.Item.plain g.K.Key.hash_of (place c.args.keys.now b.position) b.hash (c.requires.keys b.position b.hash there)) (c.if-fits.ensures.0 refl) in
    there ∙ ap (λ (x : ℕ). Some x) (sym mine ∙ sym c.requires.hash)

pub returns-then-left-eq0-clause-absent : goal.returns-then-left-eq0-clause-absent
returns-then-left-eq0-clause-absent g c =
    absent-by-beyond (λ p. option_map g.K.Item.plain (place c.args.keys.now p)) (g.E.Equivalent.sought c.args.key.now) g.K.Key.hash_of c.args.buckets.now c.args.hash c.home-start.result c.probe.at c.args.reach c.requires.ring c.requires.near
    c.home-start.ensures.value c.requires.hash c.probe.invariant.passed
    (missed-by (λ p. option_map g.K.Item.plain (place c.args.keys.now p)) (g.E.Equivalent.sought c.args.key.now) c.args.buckets.now c.probe.at c.fits.result c.probe.invariant.passed.within c.if-bucket.false c.fits.ensures.1 c.if-fits.false)
    (omega (arith, c.probe.invariant.taken, c.if-left-eq0.true))
    (λ p h there. map-twice g.K.Item.plain g.K.Key.hash_of (place c.args.keys.now p) h (c.requires.keys p h there))

pub probe-smaller : goal.probe-smaller
probe-smaller g c = passed-falls _ _ _ c.home-start.ensures.within _ _ c.probe.invariant.passed
    (missed-by (λ p. option_map g.K.Item.plain (place c.args.keys.now p)) (g.E.Equivalent.sought c.args.key.now) c.args.buckets.now c.probe.at c.fits.result c.probe.invariant.passed.within c.if-bucket.false c.fits.ensures.1 c.if-fits.false) c.next-at.ensures
    (λ every. missed-everywhere (λ p. option_map g.K.Item.plain (place c.args.keys.now p)) (g.E.Equivalent.sought c.args.key.now) (cells c.args.buckets.now) c.requires.free (λ j p. every j (omega (arith, length-cells c.args.buckets.now))))

pub probe-preserved : goal.probe-preserved
probe-preserved g c = probing-more _ _ _ _ _ _ _ c.home-start.ensures.within c.probe.invariant
    (missed-by (λ p. option_map g.K.Item.plain (place c.args.keys.now p)) (g.E.Equivalent.sought c.args.key.now) c.args.buckets.now c.probe.at c.fits.result c.probe.invariant.passed.within c.if-bucket.false c.fits.ensures.1 c.if-fits.false) c.next-at.ensures
    (λ every. missed-everywhere (λ p. option_map g.K.Item.plain (place c.args.keys.now p)) (g.E.Equivalent.sought c.args.key.now) (cells c.args.buckets.now) c.requires.free (λ j p. every j (omega (arith, length-cells c.args.buckets.now)))) c.if-left-eq0.false
