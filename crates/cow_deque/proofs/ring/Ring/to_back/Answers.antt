use Rattle.std.proofs.Common.{◌∙◌, ap, length, arith}
use Rattle.cow_deque.proofs.Turns.{length-turned}
use Rattle.cow_deque.proofs.Rings.{turned-more}
use Rattle.cow_deque.proofs.ring.Ring.to_back.Goals as goal

pub loop-i-preserved : goal.loop-i-preserved
loop-i-preserved g c =
    let v = c.loop-i.invariant in
    record {
      items = rw c.push.ensures (turned-more c.args.self.now.items c.loop-i._i c.in-Some.x c.pop_front.new.self.items (omega (arith, c.requires)) (rw v.items at c.in-Some.ensures.value));
      front = rw c.push.ensures (c.in-Some.ensures.front ∙ v.front);
      capacity = rw c.push.ensures (c.in-Some.ensures.capacity ∙ v.capacity);
    }

pub unreachable-requires : goal.unreachable-requires
unreachable-requires g c =
    let v = c.loop-i.invariant in
    omega (arith, c.requires, length-turned c.loop-i._i c.args.self.now.items, ap length v.items, ap length c.in-None.ensures.empty)
