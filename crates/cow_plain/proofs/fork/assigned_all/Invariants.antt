use Rattle.std.proofs.Common.{◌≡◌, drop}
use Rattle.cow_model.specs.Fork.{assigned_all}
use Rattle.cow_plain.proofs.fork.assigned_all.Given as goal

-- the outcome so far, and the entries to come
abbrev pub invariant-loop-e : goal.invariant-loop-e
invariant-loop-e l = assigned_all l.made (drop l.e-index l.entries) ≡ assigned_all l.fn.out l.entries
