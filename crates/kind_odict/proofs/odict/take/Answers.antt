use Rattle.std.proofs.Common.{◌≡◌, ◌+◌, arith}
use Rattle.std.proofs.lemmas.Grind.{common_steps}
use Rattle.cow_elements.specs.Shared.{pair_of}
use Rattle.cow_model.specs.Units.{pair_units}
use Rattle.kind_dict.proofs.DictCosts.{falls-alone, moved-ended}
use Rattle.kind_odict.proofs.PairUnits.{unit-of-pair}
use Rattle.kind_odict.proofs.odict.take.Goals as goal

pub returns : goal.returns
returns g c =
    let f = g.T.Item.is_counted in
    let d = c.args.d.now in
    let p = pair_of (g.T.Item.plain c.in_ok-key.key) (g.T.Item.plain c.in_ok-key.value) in
    let x = pair_units f p in
    let held = unit-of-pair f d.value c.args.place p c.in_ok-key.ensures.old in
    let back : c.end-2.new.h.spare ≡ c.remove_at.new.h.spare + x = grind (arith, common_steps, c.end.ensures, c.end-2.ensures) in
    let still : c.end-2.new.h.copied ≡ c.remove_at.new.h.copied = grind (arith, common_steps, c.end.ensures, c.end-2.ensures) in
    let all = moved-ended f g.T.Item.WEIGHT d.alone d.value c.args.h.now c.remove_at.new.h c.end-2.new.h x back still held 0 0 g.met.T.Element.weighs_one c.remove_at.ensures.paid in
    let down = falls-alone f d.value _ _ _ c.remove_at.ensures.paid in
    record {
      value = grind (arith, common_steps);
      kept = grind (arith, common_steps);
      alone = grind (arith, common_steps);
      parted = grind (arith, common_steps);
      moved = record { falls = omega (arith, all.falls); rises = omega (arith, all.rises); copied = all.copied; kept = all.kept };
      falls = omega (arith, down, back);
    }
