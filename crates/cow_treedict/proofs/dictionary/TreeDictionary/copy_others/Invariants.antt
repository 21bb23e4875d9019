use Rattle.std.proofs.Common.{◌≡◌, ◌≤◌, ◌*◌, ◌+◌, ◌++◌, map, take, All, vec_len, vec_capacity}
use Rattle.cow_champ.specs.Node.{hashed, seen_pair}
use Rattle.cow_champ.specs.Spending.{Spends}
use Rattle.cow_treedict.specs.Trees.{IsHashed, others_of}
use Rattle.cow_treedict.proofs.dictionary.TreeDictionary.copy_others.Given as goal

abbrev pub invariant-loop-t : goal.invariant-loop-t
invariant-loop-t g l =
    record {
      hashes : All (IsHashed g.K.Key.hash_of g.K.Item.plain) l.into.items;
      same : map (hashed g.K.Item.plain g.V.Item.plain) l.into.items ≡ map (hashed g.K.Item.plain g.V.Item.plain) l.fn.into.items ++ others_of l.self.value (map (seen_pair g.K.Item.plain g.V.Item.plain) (take l.t-index l.t-items));
      most : vec_len l.into ≤ vec_len l.fn.into + l.t-index;
      room : vec_capacity l.fn.into ≤ vec_capacity l.into;
      spent : Spends (2 * l.t-index) ((g.K.Item.WEIGHT + g.V.Item.WEIGHT) * l.t-index) l.fn.h l.h;
    }
