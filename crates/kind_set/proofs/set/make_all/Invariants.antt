use Rattle.std.proofs.Common.{◌≡◌, ◌≤◌, ◌+◌, [], take, length, count_by, true}
use Rattle.cow_model.specs.Members.{in_order, union}
use Rattle.kind_set.proofs.set.make_all.Given as goal

-- the set of the literals so far, and the units of its members; nothing is counted
abbrev pub invariant-loop-literal : goal.invariant-loop-literal
invariant-loop-literal g l =
    record {
      value : l.s.value ≡ union in_order [] (take l.literal-index l.literals);
      few : length l.s.value ≤ l.literal-index;
      alone : l.s.alone ≡ true;
      spare : l.h.spare + count_by g.T.Item.is_counted l.s.value ≡ l.fn.h.spare;
      copied : l.h.copied ≡ l.fn.h.copied;
    }
