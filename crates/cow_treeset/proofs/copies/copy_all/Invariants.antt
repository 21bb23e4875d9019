use Rattle.std.proofs.Common.{◌≡◌, ◌≤◌, ◌*◌, ◌+◌, ◌++◌, map, take, All, vec_len, vec_capacity}
use Rattle.cow_champ.specs.Spending.{Spends}
use Rattle.cow_treeset.specs.TreeSets.{key_of, IsHashed}
use Rattle.cow_treeset.proofs.copies.copy_all.Given as goal

abbrev pub invariant-loop-t : goal.invariant-loop-t
invariant-loop-t g l =
    record {
      hashes : All (IsHashed g.K.Key.hash_of g.K.Item.plain) l.into.items;
      same : map (key_of g.K.Item.plain) l.into.items ≡ map (key_of g.K.Item.plain) l.fn.into.items ++ map (λ t. g.K.Item.plain t.0.now) (take l.t-index l.t-items);
      more : vec_len l.into ≡ vec_len l.fn.into + l.t-index;
      room : vec_capacity l.fn.into ≤ vec_capacity l.into;
      spent : Spends l.t-index (g.K.Item.WEIGHT * l.t-index) l.fn.h l.h;
    }
