use Rattle.std.specs.Prelude.{OnOk, OnErr}
use Rattle.cow_tasks.specs.Joins.{Joins, StopsIn, TakesIn}
use Rattle.cow_tasks.proofs.join.join_all.Given as goal

-- the tasks so far are joined
abbrev pub invariant-loop-out : goal.invariant-loop-out
invariant-loop-out g l = record {
  joins : Joins l.yielded l.fn.env l.env l.fn.h l.h;
  ok : OnOk l.joined (TakesIn l.yielded l.fn.text.items l.text.items l.gives.items);
  err : OnErr l.joined (StopsIn l.yielded l.fn.text.items l.text.items);
}
