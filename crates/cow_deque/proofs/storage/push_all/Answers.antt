use Rattle.std.proofs.Common.{[], ◌∷◌, ◌∙◌, refl, arith, append_assoc}
use Rattle.std.proofs.lemmas.List.{map-append, length_push}
use Rattle.cow_model.proofs.ListSteps.{All-push}
use Rattle.cow_deque.proofs.storage.push_all.Goals as goal

pub loop-x-preserved : goal.loop-x-preserved
loop-x-preserved g c =
    let v = c.loop-x.invariant in
    record {
      same = rw c.push.ensures (map-append g.T.Item.plain c.loop-x.ring.items (c.settle.new.self ∷ []) ∙ rw (map-append, v.same, c.settle.ensures.same, append_assoc) refl);
      count = rw (c.push.ensures) (omega (arith, length_push c.loop-x.ring.items c.settle.new.self, length_push c.loop-x.yielded c.in-Some.x, v.count));
      settled = rw c.push.ensures (All-push g.T.Item.IsSettled _ c.settle.new.self v.settled c.settle.ensures.settled);
      capacity = rw c.push.ensures v.capacity;
    }
