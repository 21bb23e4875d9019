use Rattle.std.proofs.Common.{◌≡◌, List, ◌++◌, map, length, take, drop, sym, ap, subst, ◌∙◌}
use Rattle.std.specs.Prelude.{option_map}
use Rattle.cow_table.specs.Pairs.{TableView, hash_at, Closes}
use Rattle.cow_table.specs.Ring.{cells, pairs_of, IsRing, IsTable, relabelled, shut}
use Rattle.cow_table.specs.declared.ring.Bucket.{Bucket}
use Rattle.cow_table.proofs.Relabels.{ring-close, write_whole, table-map}
use Rattle.cow_table.proofs.table.Table.close_up.Goals as goal

long : (c : goal.After-self-1) → length c.close_all.new.buckets ≡ c.self.inside.buckets.len
long c = c.close_all.auto.buckets ∙ c.as_mut_slice.ensures.len

same : (c : goal.After-self-1) → take c.self.inside.buckets.len (c.close_all.new.buckets ++ drop (length c.close_all.new.buckets) c.self.inside.buckets.items) ≡ c.close_all.new.buckets
same c = write_whole c.self.inside.buckets.len c.self.inside.buckets.items c.close_all.new.buckets (long c)

images : (c : goal.After-self-1) → cells c.close_all.new.buckets ≡ map (option_map (relabelled (shut c.args.i))) (cells c.self.inside.buckets.items)
images c = subst (λ (x : List Bucket). cells c.close_all.new.buckets ≡ map (option_map (relabelled (shut c.args.i))) (cells x)) c.as_mut_slice.ensures.value c.close_all.ensures

both : (c : goal.After-self-1) → IsRing (cells c.close_all.new.buckets) × Closes c.args.i (pairs_of (cells c.self.inside.buckets.items)) (pairs_of (cells c.close_all.new.buckets))
both c = ring-close (cells c.self.inside.buckets.items) (cells c.close_all.new.buckets) c.args.i c.self.invariant.ring (ap (λ (v : TableView). hash_at v.pairs c.args.i) c.self.view_is ∙ c.requires)
    (images c)

pub invariant_of-self : goal.invariant_of-self
invariant_of-self c = subst (λ (x : List Bucket). IsTable x c.self.inside.room c.self.inside.reach) (sym (same c))
    (table-map (shut c.args.i) c.self.inside.buckets.items c.close_all.new.buckets c.self.inside.room c.self.inside.reach c.self.invariant (both c).0 (c.close_all.auto.buckets ∙ ap (λ (x : List Bucket). length x) c.as_mut_slice.ensures.value) (both c).1.count
    (images c))

pub returns-clause-pairs : goal.returns-clause-pairs
returns-clause-pairs c = subst (λ (x : List Bucket). Closes c.args.i c.args.self.now.pairs (pairs_of (cells x))) (sym (same c))
    (subst (λ (v : TableView). Closes c.args.i v.pairs (pairs_of (cells c.close_all.new.buckets))) c.self.view_is (both c).1)
