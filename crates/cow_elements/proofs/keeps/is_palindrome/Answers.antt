use Rattle.std.proofs.Common.{◌≡◌, ◌-◌, length, slice_get, arith}
use Rattle.std.proofs.lemmas.Grind.{common_steps}
use Rattle.cow_elements.proofs.Alike.{mirrored-more}
use Rattle.cow_elements.proofs.keeps.is_palindrome.Goals as goal

pub loop-i-preserved : goal.loop-i-preserved
loop-i-preserved g c =
    let xs = g.L.Listed.elements c.args.list.now in
    let there : slice_get xs c.loop-i.i ≡ slice_get xs (length xs - 1 - c.loop-i.i) = grind (arith, common_steps, c.agree.ensures.0, c.size-n.ensures) in
    mirrored-more xs c.loop-i.i (grind (arith, common_steps)) c.loop-i.invariant there
