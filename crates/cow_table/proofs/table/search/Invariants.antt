use Rattle.std.proofs.Common.{ℕ, ◌-◌, length, get_or, None}
use Rattle.std.specs.Prelude.{option_map}
use Rattle.cow_buf.specs.Places.{place}
use Rattle.cow_table.specs.Ring.{cells, distance}
use Rattle.cow_table.proofs.Searches.{Missed, Probing}
use Rattle.cow_table.proofs.table.search.Given as goal

abbrev pub invariant-probe : goal.invariant-probe
invariant-probe g l = Probing (λ (j : ℕ). Missed (λ p. option_map g.K.Item.plain (place l.keys p)) (g.E.Equivalent.sought l.key) (get_or (cells l.buckets) j None)) (length l.buckets) l.start l.at l.left l.reach

abbrev pub decreases-probe : goal.decreases-probe
decreases-probe g l = length l.buckets - distance (length l.buckets) l.start l.at
