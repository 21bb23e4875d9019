use Rattle.std.proofs.Common.{◌≡◌, ◌+◌, ◌≤◌, ◌++◌, length, map, All, IsPermutation, vec_len, vec_capacity}
use Rattle.cow_champ.specs.Node.{hashed}
use Rattle.cow_dict.specs.Storages.{AreWhole, listed}
use Rattle.cow_treedict.specs.Trees.{IsHashed}
use Rattle.cow_treedict.proofs.distinct.taken_out.Given as goal

abbrev pub invariant-loop : goal.invariant-loop
invariant-loop g l =
    record {
      whole : AreWhole g.K.Item.plain g.K.Key.hash_of g.K.Item.IsSettled g.V.Item.IsSettled l.found;
      same : IsPermutation (listed g.K.Item.plain g.V.Item.plain l.fn.found) (map (hashed g.K.Item.plain g.V.Item.plain) l.out.items ++ listed g.K.Item.plain g.V.Item.plain l.found);
      hashes : All (IsHashed g.K.Key.hash_of g.K.Item.plain) l.out.items;
      left : length l.found.members.keys.items + l.counter ≡ length l.fn.found.members.keys.items;
      out : vec_len l.out ≡ l.counter;
      room : length l.fn.found.members.keys.items ≤ vec_capacity l.out;
      spare : l.initial.h ≡ l.h;
    }
