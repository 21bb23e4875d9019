use Rattle.std.proofs.Common.{arith, map, drop, ◌++◌, slice_get, Some, ◌≡◌}
use Rattle.std.proofs.lemmas.Grind.{common_steps}
use Rattle.std.specs.List.{flat_map}
use Rattle.cow_elements.proofs.Printing.{printed-next}
use Rattle.cow_elements.specs.Shared.{pair_of}
use Rattle.cow_model.specs.Printed.{behind_comma, pair_text}
use Rattle.kind_odict.proofs.odict.put_others.Goals as goal

pub loop-place-preserved : goal.loop-place-preserved
loop-place-preserved g c =
    let ps = c.args.d.now.value in
    let p = pair_of (g.T.Item.plain c.in-Some.pair.0.now) (g.T.Item.plain c.in-Some.pair.1.now) in
    let there : slice_get ps c.loop-place.place ≡ Some p = grind (arith, common_steps, c.at.ensures.value) in (
      printed-next pair_text ps c.loop-place.place p c.loop-place.text.items c.put_behind_comma.new.text.items
          (c.args.text.now.items ++ flat_map behind_comma (map pair_text (drop 1 ps)))
          there (c.loop-place.invariant.0) c.in_ok-put_behind_comma-in-Some.ensures.ok,
      grind (arith, common_steps),
    )
