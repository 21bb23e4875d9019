use Rattle.std.proofs.Common.{◌≡◌, take, true}
use Rattle.std.specs.List.{list_all}
use Rattle.cow_dict.specs.Dictionaries.{holds}
use Rattle.cow_dict.specs.Storages.{listed}
use Rattle.cow_dict.proofs.algebra.includes.Given as goal

abbrev pub invariant-loop-i : goal.invariant-loop-i
invariant-loop-i g l = list_all (holds (listed g.K.Item.plain g.V.Item.plain l.pairs)) (take l.i (listed g.K.Item.plain g.V.Item.plain l.others)) ≡ true
