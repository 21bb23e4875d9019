use Rattle.std.proofs.Common.{◌≡◌, ◌≤◌, map, take}
use Rattle.cow_members.specs.Sets.{lacking}
use Rattle.cow_dict.proofs.algebra.missing.Given as goal

abbrev pub invariant-loop-i : goal.invariant-loop-i
invariant-loop-i g l =
    record {
      count : l.n ≡ lacking (map g.K.Item.plain l.pairs.members.keys.items) (map g.K.Item.plain (take l.i l.others.members.keys.items));
      most : l.n ≤ l.i;
    }
