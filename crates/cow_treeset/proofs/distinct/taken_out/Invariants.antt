use Rattle.std.proofs.Common.{◌≡◌, ◌+◌, ◌≤◌, ◌++◌, length, map, All, IsPermutation, vec_len, vec_capacity}
use Rattle.cow_members.specs.Members.{AreSound, listed}
use Rattle.cow_treeset.specs.TreeSets.{key_of, IsHashed}
use Rattle.cow_treeset.proofs.distinct.taken_out.Given as goal

abbrev pub invariant-loop : goal.invariant-loop
invariant-loop g l =
    record {
      sound : AreSound g.K.Item.plain g.K.Key.hash_of g.K.Item.IsSettled l.found;
      same : IsPermutation (listed g.K.Item.plain l.fn.found) (map (key_of g.K.Item.plain) l.out.items ++ listed g.K.Item.plain l.found);
      hashes : All (IsHashed g.K.Key.hash_of g.K.Item.plain) l.out.items;
      left : length l.found.keys.items + l.counter ≡ length l.fn.found.keys.items;
      out : vec_len l.out ≡ l.counter;
      room : length l.fn.found.keys.items ≤ vec_capacity l.out;
      spare : l.initial.h ≡ l.h;
    }
