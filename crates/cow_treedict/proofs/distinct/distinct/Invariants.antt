use Rattle.std.proofs.Common.{◌≡◌, ◌≤◌, ◌++◌, length, map}
use Rattle.std.specs.Vec.Iter.{into_iter_items, into_iter_len}
use Rattle.cow_dict.specs.Storages.{AreWhole, map_of}
use Rattle.cow_treedict.specs.Trees.{plain_pair, map_from}
use Rattle.cow_treedict.proofs.distinct.distinct.Given as goal

abbrev pub invariant-loop-pair : goal.invariant-loop-pair
invariant-loop-pair g l =
    ((goal.iterator-loop-pair g).can_next l.pair-iterator)
    × ((goal.iterator-loop-pair g).is_finite l.pair-iterator)
    × (l.yielded ++ into_iter_items l.pair-iterator ≡ into_iter_items l.initial.pair-iterator)
    × (into_iter_len l.pair-iterator ≡ length (into_iter_items l.pair-iterator))
    × AreWhole g.K.Item.plain g.K.Key.hash_of g.K.Item.IsSettled g.V.Item.IsSettled l.found
    × (map_of g.K.Item.plain g.V.Item.plain l.found ≡ map_from (map (plain_pair g.K.Item.plain g.V.Item.plain) l.yielded))
    × (length l.found.members.keys.items ≤ length l.yielded)
    × (length l.fn.pairs.items ≤ l.found.values.capacity)
    × (l.fn.h.spare ≤ l.h.spare)
    × (l.h.copied ≡ l.fn.h.copied)
