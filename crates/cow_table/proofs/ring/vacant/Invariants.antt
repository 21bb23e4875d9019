use Rattle.std.proofs.Common.{◌≢◌, ℕ, ◌-◌, length, get_or, None}
use Rattle.cow_table.specs.Ring.{cells, distance}
use Rattle.cow_table.proofs.Probes.{Passed}
use Rattle.cow_table.proofs.ring.vacant.Given as goal

abbrev pub invariant-probe : goal.invariant-probe
invariant-probe l = Passed (λ (j : ℕ). get_or (cells l.buckets) j None ≢ None) (length l.buckets) l.start l.at

abbrev pub decreases-probe : goal.decreases-probe
decreases-probe l = length l.buckets - distance (length l.buckets) l.start l.at
