use Rattle.std.proofs.Common.{◌∙◌, ap, length, arith}
use Rattle.cow_deque.proofs.gaps.gap_up.Goals as goal

pub slide_up-k-requires-clause-within : goal.slide_up-k-requires-clause-within
slide_up-k-requires-clause-within g c = omega (arith, ap length c.loop-k.invariant.items, c.requires.within)

pub loop-k-preserved : goal.loop-k-preserved
loop-k-preserved g c =
    let v = c.loop-k.invariant in
    record {
      gap = c.slide_up-k.ensures.gap;
      within = omega (arith, c.slide_up-k.ensures.most);
      items = c.slide_up-k.ensures.items ∙ v.items;
      places = c.slide_up-k.ensures.places ∙ v.places;
    }
