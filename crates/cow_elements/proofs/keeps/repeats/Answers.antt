use Rattle.std.proofs.Common.{◌≡◌, slice_get, arith}
use Rattle.std.proofs.lemmas.Grind.{common_steps}
use Rattle.cow_elements.proofs.Alike.{turned-more, turned-shows}
use Rattle.cow_elements.proofs.keeps.repeats.Goals as goal

pub returns-then-not-agree : goal.returns-then-not-agree
returns-then-not-agree g c =
    let xs = g.L.Listed.elements c.args.list.now in
    let around = rw c.size-n.ensures at c.behind-j.ensures in
    let shows = turned-shows xs c.args.k c.loop-i.i c.behind-j.result (grind (arith, common_steps)) (grind (arith, common_steps)) around in
    grind (arith, common_steps, shows)

pub loop-i-preserved : goal.loop-i-preserved
loop-i-preserved g c =
    let xs = g.L.Listed.elements c.args.list.now in
    let there : slice_get xs c.loop-i.i ≡ slice_get xs c.behind-j.result = grind (arith, common_steps, c.agree.ensures.0) in
    let around = rw c.size-n.ensures at c.behind-j.ensures in
    turned-more xs c.args.k c.loop-i.i c.behind-j.result (grind (arith, common_steps)) (grind (arith, common_steps)) around c.loop-i.invariant there
