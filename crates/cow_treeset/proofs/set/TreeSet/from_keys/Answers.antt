use Rattle.std.proofs.Common.{map, [], sym, subst}
use Rattle.cow_members.proofs.Ascents.{ascends-union}
use Rattle.cow_members.specs.Ascents.{Ascends}
use Rattle.cow_treeset.proofs.set.TreeSet.from_keys.Goals as goal

pub built-requires-clause-distinct : goal.built-requires-clause-distinct
built-requires-clause-distinct g c = subst Ascends (sym c.in_ok-keys.ensures.set) (ascends-union [] (map g.K.Item.plain c.args.keys.items) tt)
