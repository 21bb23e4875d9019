use Rattle.cow_crew.proofs.Places.{one_more}
use Rattle.cow_crew.proofs.place.make_places.Goals as goal

pub loop-job-preserved : goal.loop-job-preserved
loop-job-preserved g c = rw c.in_ok-push.ensures.items (one_more _ _ _ _ c.loop-job.invariant c.waiting.ensures)
