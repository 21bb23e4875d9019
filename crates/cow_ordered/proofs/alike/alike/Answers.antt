use Rattle.std.proofs.Common.{◌≡◌, ◌<◌, length, slice_get, Some, refl, arith}
use Rattle.std.proofs.lemmas.Option.{slice_get-map, slice_get_read}
use Rattle.std.proofs.lemmas.Grind.{common_steps}
use Rattle.cow_model.proofs.ListSteps.{map-take-more}
use Rattle.cow_ordered.proofs.alike.alike.Goals as goal

pub returns-then-not-same : goal.returns-then-not-same
returns-then-not-same g c =
    let within : c.loop-i.i < length c.args.right.now = omega (arith, c.if-left-right.false, c.loop-i-test.true) in
    let first : slice_get c.args.left.now c.loop-i.i ≡ Some c.index-left-i.result = slice_get_read c.args.left.now (length c.args.left.now) c.loop-i.i c.index-left-i.result refl c.loop-i-test.true c.index-left-i.is in
    let second : slice_get c.args.right.now c.loop-i.i ≡ Some c.index-right-i.result = slice_get_read c.args.right.now (length c.args.right.now) c.loop-i.i c.index-right-i.result refl within c.index-right-i.is in
    let left = slice_get-map g.K.Item.plain c.args.left.now c.loop-i.i in
    let right = slice_get-map g.K.Item.plain c.args.right.now c.loop-i.i in
    grind (arith, common_steps, first, second, left, right, c.same.ensures.1)

pub loop-i-preserved : goal.loop-i-preserved
loop-i-preserved g c =
    let within : c.loop-i.i < length c.args.right.now = omega (arith, c.if-left-right.false, c.loop-i-test.true) in
    let first = slice_get_read c.args.left.now (length c.args.left.now) c.loop-i.i c.index-left-i.result refl c.loop-i-test.true c.index-left-i.is in
    let second = slice_get_read c.args.right.now (length c.args.right.now) c.loop-i.i c.index-right-i.result refl within c.index-right-i.is in
    let left = map-take-more g.K.Item.plain c.args.left.now c.loop-i.i c.index-left-i.result first in
    let right = map-take-more g.K.Item.plain c.args.right.now c.loop-i.i c.index-right-i.result second in
    rw (left, right) (grind (arith, common_steps, c.same.ensures.0))
