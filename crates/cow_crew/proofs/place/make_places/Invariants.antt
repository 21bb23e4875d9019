use Rattle.cow_crew.specs.Places.{AllWait}
use Rattle.cow_crew.proofs.place.make_places.Given as goal

abbrev pub invariant-loop-job : goal.invariant-loop-job
invariant-loop-job g l = AllWait l.yielded l.places.items
