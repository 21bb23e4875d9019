use Rattle.cow_tasks.specs.Tasks.{SeenOut}
use Rattle.cow_tasks.proofs.Joining.{joins-more, takes-more, stops-more}
use Rattle.cow_tasks.proofs.join.join_all.Goals as goal

pub loop-out-preserved : goal.loop-out-preserved
loop-out-preserved g c =
    let loop = c.loop-out in
    let so-far = loop.invariant in
    let o : SeenOut = record { text = c.out.inside.text.items; gives = c.out.inside.gives.items; h = c.out.inside.h; allowed = c.out.inside.allowed; outcome = c.out.inside.outcome } in
    let did = c.take_in-joined.ensures in
    let said = rw c.deref.ensures.value at did.text in
    let grew = rw c.deref.ensures.value at did.err in
    rw (← c.out.view_is) (record {
      joins = joins-more loop.yielded o c.args.env.now loop.env c.allow.new.self c.args.h.now loop.h c.join.new.self so-far.joins c.join.ensures.sum c.allow.ensures;
      ok = takes-more loop.yielded o c.args.text.now.items loop.text.items c.take_in-joined.new.text.items loop.gives.items c.take_in-joined.new.gives.items c.take_in-joined.result loop.joined did.before did.told said did.gives so-far.ok;
      err = stops-more loop.yielded o c.args.text.now.items loop.text.items c.take_in-joined.new.text.items loop.gives.items c.take_in-joined.new.gives.items c.take_in-joined.result loop.joined did.stopped grew so-far.ok so-far.err;
    })
