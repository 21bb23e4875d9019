use Rattle.std.proofs.Common.{◌≡◌, ℕ, ◌≤◌, ◌+◌, drop}
use Rattle.cow_model.specs.Fork.{captured_all}
use Rattle.cow_model.specs.Fronts.{IsFrontOf}
use Rattle.cow_eval.specs.Envs.{AreNear, IsBare}
use Rattle.cow_tasks.specs.Captures.{KeepsRest, captured_at}
use Rattle.cow_tasks.specs.Tasks.{BalancesBoth}
use Rattle.cow_tasks.proofs.captures.capture_all.Given as goal

-- what the captures so far did, and what those to come would do
abbrev pub invariant-loop-one : goal.invariant-loop-one
invariant-loop-one g l = record {
  done : captured_all (captured_at l.parent l.task l.text.items) (drop l.one-index l.captures) ≡ captured_all (captured_at l.fn.parent l.fn.task l.fn.text.items) l.captures;
  grows : IsFrontOf l.fn.text.items l.text.items;
  of_parent : KeepsRest l.fn.parent l.parent;
  of_task : KeepsRest l.fn.task l.task;
  copied : l.h.copied ≡ l.fn.h.copied;
  falls : l.fn.h.spare ≤ l.h.spare + l.one-index;
  near : (m : ℕ) → AreNear m l.fn.parent.names → AreNear m l.fn.task.names → AreNear m l.parent.names × AreNear m l.task.names;
  bare : IsBare g.V.Shown.counted l.fn.parent.names → IsBare g.V.Shown.counted l.fn.task.names → BalancesBoth g.V.Shown.counted l.fn.parent.names l.parent.names l.fn.task.names l.task.names l.fn.h l.h;
}
