use Rattle.std.proofs.Common.{arith, map, drop, ◌++◌, slice_get, Some, ◌≡◌}
use Rattle.std.proofs.lemmas.Grind.{common_steps}
use Rattle.std.specs.List.{flat_map}
use Rattle.cow_model.specs.Printed.{atom_text, behind_comma}
use Rattle.cow_elements.proofs.Printing.{printed-next}
use Rattle.cow_elements.proofs.listed.put_others.Goals as goal

pub loop-place-preserved : goal.loop-place-preserved
loop-place-preserved g c =
    let xs = g.L.Listed.elements c.args.list.now in
    let there : slice_get xs c.loop-place.place ≡ Some (g.T.Item.plain c.in-Some.x.now) = grind (arith, common_steps, c.at.ensures) in (
      printed-next atom_text xs c.loop-place.place (g.T.Item.plain c.in-Some.x.now) c.loop-place.text.items c.put_behind_comma.new.text.items
          (c.args.text.now.items ++ flat_map behind_comma (map atom_text (drop 1 xs)))
          there (c.loop-place.invariant.0) c.in_ok-put_behind_comma-in-Some.ensures.ok,
      grind (arith, common_steps),
    )
