use Rattle.cow_table.specs.Ring.{cells, relabelled, shut}
use Rattle.cow_table.proofs.Relabels.{Mapped}
use Rattle.cow_table.proofs.ring.close_all.Given as goal

abbrev pub invariant-loop-k : goal.invariant-loop-k
invariant-loop-k l = Mapped (relabelled (shut l.i)) (cells l.initial.buckets) (cells l.buckets) l.k
