use Rattle.std.proofs.Common.{◌≡◌, ◌++◌, drop}
use Rattle.std.specs.Prelude.{filter}
use Rattle.cow_model.specs.Lazy.{passes}
use Rattle.cow_plain.proofs.lazy.all_kept.Given as goal

-- the view so far, and the atoms to come
abbrev pub invariant-loop-atom : goal.invariant-loop-atom
invariant-loop-atom l = l.made.items ++ filter (passes l.shape) (drop l.atom-index l.items) ≡ filter (passes l.shape) l.items
