use Rattle.std.proofs.Common.{◌≡◌, ◌≤◌, ◌+◌, Option, None, Some, sym, ap, ◌∙◌, arith}
use Rattle.std.proofs.lemmas.Grind.{common_steps}
use Rattle.std.specs.Option.{option_map}
use Rattle.cow_elements.specs.Shared.{pair_of}
use Rattle.cow_model.specs.Pairs.{value_in}
use Rattle.cow_model.specs.Purse.{unit_if}
use Rattle.cow_model.specs.Units.{pair_units}
use Rattle.kind_dict.proofs.DictCosts.{put-falls, put-moved, value-unit}
use Rattle.kind_odict.proofs.odict.add.Goals as goal

pub returns-in-Ok-None : goal.returns-in-Ok-None
returns-in-Ok-None g c =
    let f = g.T.Item.is_counted in
    let w = g.T.Item.WEIGHT in
    let ps = c.args.d.now.value in
    let p = pair_of c.args.key.now c.args.value.now in
    let paid = c.update.ensures.paid in
    let read : c.read_pair.new.h.spare + pair_units f p ≡ c.args.h.now.spare = c.in_ok-k.ensures.spare in
    let more = c.in_ok-k.ensures.copied in
    let never = c.in_ok-k.ensures.never in
    record {
      value = grind (arith, common_steps);
      kept = grind (arith, common_steps);
      alone = grind (arith, common_steps);
      parted = grind (arith, common_steps);
      moved = put-moved f w c.args.d.now.alone ps c.read_pair.new.h c.update.new.h c.args.h.now c.update.new.h p 0 read more never (omega arith) (omega arith) (omega arith) (grind (arith, common_steps)) paid;
      falls = put-falls f w c.args.d.now.alone ps c.read_pair.new.h c.update.new.h c.args.h.now c.update.new.h p 0 read more never (omega arith) (omega arith) (omega arith) _ paid;
    }

pub returns-in-Ok-Some : goal.returns-in-Ok-Some
returns-in-Ok-Some g c =
    let f = g.T.Item.is_counted in
    let w = g.T.Item.WEIGHT in
    let plain = g.T.Item.plain in
    let ps = c.args.d.now.value in
    let p = pair_of c.args.key.now c.args.value.now in
    let paid = c.update.ensures.paid in
    let read : c.read_pair.new.h.spare + pair_units f p ≡ c.args.h.now.spare = c.in_ok-k.ensures.spare in
    let more = c.in_ok-k.ensures.copied in
    let never = c.in_ok-k.ensures.never in
    let x = unit_if (f (plain c.in-Ok-Some.old)) in
    let there : value_in (plain c.in_ok-k.k) ps ≡ Some (plain c.in-Ok-Some.old) = sym c.in-Ok-Some.ensures.old ∙ ap (option_map plain) c.in-Ok-Some.field-0-is in
    let held = value-unit f (plain c.in_ok-k.k) (plain c.in-Ok-Some.old) ps there in
    let back : c.end.new.h.spare ≡ c.update.new.h.spare + x = grind (arith, common_steps, c.end.ensures) in
    let still : c.end.new.h.copied ≡ c.update.new.h.copied = grind (arith, common_steps, c.end.ensures) in
    record {
      value = grind (arith, common_steps);
      kept = grind (arith, common_steps);
      alone = grind (arith, common_steps);
      parted = grind (arith, common_steps);
      moved = put-moved f w c.args.d.now.alone ps c.read_pair.new.h c.update.new.h c.args.h.now c.end.new.h p x read more never back still held (grind (arith, common_steps)) paid;
      falls = put-falls f w c.args.d.now.alone ps c.read_pair.new.h c.update.new.h c.args.h.now c.end.new.h p x read more never back still held _ paid;
    }
