use Rattle.std.proofs.Common.{◌≡◌, ◌+◌, Some, get_or, slice_get, arith}
use Rattle.std.proofs.lemmas.Grind.{common_steps}
use Rattle.cow_elements.proofs.Alike.{shown-more}
use Rattle.cow_elements.proofs.keeps.shows.Goals as goal

pub loop-k-preserved : goal.loop-k-preserved
loop-k-preserved g c =
    let xs = g.L.Listed.elements c.args.list.now in
    let a = c.index-atoms-k.result in
    let there : slice_get xs (c.args.from + c.loop-k.k) ≡ Some a = grind (arith, common_steps, c.is_at.ensures.0) in
    let atom : a ≡ get_or c.args.atoms.now c.loop-k.k a = grind (arith, common_steps, c.index-atoms-k.is) in
    shown-more xs c.args.atoms.now c.args.from c.loop-k.k a (grind (arith, common_steps)) (grind (arith, common_steps)) c.loop-k.invariant there atom
