use Rattle.cow_table.specs.Ring.{cells, relabelled, opened}
use Rattle.cow_table.proofs.Relabels.{Mapped}
use Rattle.cow_table.proofs.ring.open_all.Given as goal

abbrev pub invariant-loop-k : goal.invariant-loop-k
invariant-loop-k l = Mapped (relabelled (opened l.i)) (cells l.initial.buckets) (cells l.buckets) l.k
