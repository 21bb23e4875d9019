use Rattle.std.proofs.Common.{◌≡◌, ◌≤◌, length, map, take, vec_len, vec_capacity}
use Rattle.cow_treeset.proofs.set.firsts.Given as goal

abbrev pub invariant-loop-t : goal.invariant-loop-t
invariant-loop-t g l =
    record {
      same : map (λ k. g.K.Item.plain k.now) l.keys.items ≡ map (λ t. g.K.Item.plain t.0.now) (take l.t-index l.t-items);
      count : vec_len l.keys ≡ l.t-index;
      room : length l.t-items ≤ vec_capacity l.keys;
    }
