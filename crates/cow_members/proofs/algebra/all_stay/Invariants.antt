use Rattle.std.proofs.Common.{◌≡◌, map, take, true}
use Rattle.std.specs.List.{list_all}
use Rattle.cow_members.specs.Sets.{kept_by}
use Rattle.cow_members.proofs.algebra.all_stay.Given as goal

abbrev pub invariant-loop-i : goal.invariant-loop-i
invariant-loop-i g l = list_all (kept_by l.keep (map g.K.Item.plain l.others.keys.items)) (map g.K.Item.plain (take l.i l.members.keys.items)) ≡ true
