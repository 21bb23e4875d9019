use Rattle.std.proofs.Common.{◌≡◌, ◌≤◌, ◌++◌, [], length, map}
use Rattle.std.specs.Vec.Iter.{into_iter_items, into_iter_len}
use Rattle.cow_members.specs.Members.{AreSound, set_of}
use Rattle.cow_model.specs.Members.{in_order, union}
use Rattle.cow_treeset.proofs.distinct.distinct.Given as goal

abbrev pub invariant-loop-k : goal.invariant-loop-k
invariant-loop-k g l =
    ((goal.iterator-loop-k g).can_next l.k-iterator)
    × ((goal.iterator-loop-k g).is_finite l.k-iterator)
    × (l.yielded ++ into_iter_items l.k-iterator ≡ into_iter_items l.initial.k-iterator)
    × (into_iter_len l.k-iterator ≡ length (into_iter_items l.k-iterator))
    × AreSound g.K.Item.plain g.K.Key.hash_of g.K.Item.IsSettled l.found
    × (set_of g.K.Item.plain l.found ≡ union in_order [] (map g.K.Item.plain l.yielded))
    × (length l.found.keys.items ≤ length l.yielded)
    × (length l.fn.keys.items ≤ l.found.keys.capacity)
    × (l.fn.h.spare ≤ l.h.spare)
    × (l.h.copied ≡ l.fn.h.copied)
