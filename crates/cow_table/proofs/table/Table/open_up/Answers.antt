use Rattle.std.proofs.Common.{◌≡◌, ◌<◌, List, ◌++◌, map, length, take, drop, get_or, None, sym, ap, subst, ◌∙◌, arith}
use Rattle.std.specs.Prelude.{option_map}
use Rattle.cow_table.specs.Pairs.{TableView, hash_at, Opens}
use Rattle.cow_table.specs.Ring.{cells, pairs_of, IsRing, IsTable, relabelled, opened}
use Rattle.cow_table.specs.declared.ring.Bucket.{Bucket}
use Rattle.cow_table.proofs.Probes.{length-cells}
use Rattle.cow_table.proofs.Searches.{bucket-there}
use Rattle.cow_table.proofs.Relabels.{ring-open, write_whole, table-map}
use Rattle.cow_table.proofs.table.Table.open_up.Goals as goal

long : (c : goal.After-self-1) → length c.open_all.new.buckets ≡ c.self.inside.buckets.len
long c = c.open_all.auto.buckets ∙ c.as_mut_slice.ensures.len

same : (c : goal.After-self-1) → take c.self.inside.buckets.len (c.open_all.new.buckets ++ drop (length c.open_all.new.buckets) c.self.inside.buckets.items) ≡ c.open_all.new.buckets
same c = write_whole c.self.inside.buckets.len c.self.inside.buckets.items c.open_all.new.buckets (long c)

images : (c : goal.After-self-1) → cells c.open_all.new.buckets ≡ map (option_map (relabelled (opened c.args.i))) (cells c.self.inside.buckets.items)
images c = subst (λ (x : List Bucket). cells c.open_all.new.buckets ≡ map (option_map (relabelled (opened c.args.i))) (cells x)) c.as_mut_slice.ensures.value c.open_all.ensures

both : (c : goal.After-self-1) → IsRing (cells c.open_all.new.buckets) × Opens c.args.i (pairs_of (cells c.self.inside.buckets.items)) (pairs_of (cells c.open_all.new.buckets))
both c = ring-open (cells c.self.inside.buckets.items) (cells c.open_all.new.buckets) c.args.i c.self.invariant.ring
    (images c)

pub invariant_of-self : goal.invariant_of-self
invariant_of-self c = subst (λ (x : List Bucket). IsTable x c.self.inside.room c.self.inside.reach) (sym (same c))
    (table-map (opened c.args.i) c.self.inside.buckets.items c.open_all.new.buckets c.self.inside.room c.self.inside.reach c.self.invariant (both c).0 (c.open_all.auto.buckets ∙ ap (λ (x : List Bucket). length x) c.as_mut_slice.ensures.value) (both c).1.count
    (images c))

pub returns-clause-pairs : goal.returns-clause-pairs
returns-clause-pairs c = subst (λ (x : List Bucket). Opens c.args.i c.args.self.now.pairs (pairs_of (cells x))) (sym (same c))
    (subst (λ (v : TableView). Opens c.args.i v.pairs (pairs_of (cells c.open_all.new.buckets))) c.self.view_is (both c).1)

pub open_all-requires : goal.open_all-requires
open_all-requires c k e p was =
    let bs = c.self.inside.buckets.items in
    let is = c.as_mut_slice.ensures.value in
    let p : k < length bs = subst (λ (x : List Bucket). k < length x) is p in
    c.requires e.position e.hash (ap (λ (v : TableView). hash_at v.pairs e.position) (sym c.self.view_is)
    ∙ bucket-there (cells bs) k e c.self.invariant.ring.apart (omega (arith, length-cells bs, p)) (ap (λ (x : List Bucket). get_or (cells x) k None) (sym is) ∙ was))
