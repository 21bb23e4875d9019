use Rattle.std.proofs.Common.{◌≡◌, ◌++◌, drop, map}
use Rattle.cow_model.specs.Lazy.{mapped}
use Rattle.cow_plain.proofs.lazy.all_mapped.Given as goal

-- the view so far, and the atoms to come
abbrev pub invariant-loop-atom : goal.invariant-loop-atom
invariant-loop-atom l = l.made.items ++ map (mapped l.shape) (drop l.atom-index l.items) ≡ map (mapped l.shape) l.items
