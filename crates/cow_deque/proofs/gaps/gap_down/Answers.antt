use Rattle.std.proofs.Common.{◌∙◌, arith}
use Rattle.cow_deque.proofs.gaps.gap_down.Goals as goal

pub loop-k-preserved : goal.loop-k-preserved
loop-k-preserved g c =
    let v = c.loop-k.invariant in
    record {
      gap = c.slide_down-k.ensures.gap;
      within = omega (arith, c.slide_down-k.ensures.most);
      items = c.slide_down-k.ensures.items ∙ v.items;
      places = c.slide_down-k.ensures.places ∙ v.places;
    }
