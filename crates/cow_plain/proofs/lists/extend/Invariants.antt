use Rattle.std.proofs.Common.{◌≡◌, ◌++◌, drop}
use Rattle.cow_plain.proofs.lists.extend.Given as goal

-- the list so far, and the items to come
abbrev pub invariant-loop-item : goal.invariant-loop-item
invariant-loop-item g l = l.list.items ++ drop l.item-index l.items ≡ l.fn.list.items ++ l.items
