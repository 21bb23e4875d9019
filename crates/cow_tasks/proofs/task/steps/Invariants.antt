use Rattle.std.proofs.Common.{◌≡◌, ℕ, ◌≤◌, ◌+◌, ◌*◌, ◌^◌, [], drop, length, All}
use Rattle.cow_model.specs.Atoms.{IsBareStep}
use Rattle.cow_model.specs.Fork.{task_run}
use Rattle.cow_model.specs.Purse.{RisesWithin}
use Rattle.cow_model.specs.declared.statement.Statement.{out-Statement}
use Rattle.cow_eval.specs.Entries.{most_units}
use Rattle.cow_eval.specs.Envs.{AreNear, CanRun, IsBare}
use Rattle.cow_tasks.specs.Tasks.{BalancesBoth, task_at}
use Rattle.cow_tasks.proofs.task.steps.Given as goal

-- what the statements so far did, and what those to come would do
abbrev pub invariant-loop-statement : goal.invariant-loop-statement
invariant-loop-statement g l = record {
  done : task_run [] (task_at l.env l.text.items l.gives.items) (drop l.statement-index l.statements) ≡ task_run [] (task_at l.fn.env l.fn.text.items l.fn.gives.items) l.statements;
  rises : l.env.allowed ≤ l.fn.env.allowed + l.statement-index * most_units;
  copied : RisesWithin l.fn.env.allowed l.env.allowed l.fn.h l.h;
  falls : l.fn.h.spare ≤ l.h.spare + l.statement-index * most_units;
  ready : CanRun (length (drop l.statement-index l.statements)) l.env l.h;
  next : (m : ℕ) → CanRun (m + length l.statements) l.fn.env l.fn.h → CanRun (m + length (drop l.statement-index l.statements)) l.env l.h;
  near : (m : ℕ) → m + length l.statements ≤ 2 ^ 30 → AreNear (m + length l.statements) l.fn.env.names → AreNear (m + length l.statements) l.fn.gives.items →
      AreNear (m + length (drop l.statement-index l.statements)) l.env.names × AreNear (m + length (drop l.statement-index l.statements)) l.gives.items;
  bare : IsBare g.V.Shown.counted l.fn.env.names → IsBare g.V.Shown.counted l.fn.gives.items → All (λ s. IsBareStep g.V.Shown.counted (out-Statement s)) l.statements →
      BalancesBoth g.V.Shown.counted l.fn.env.names l.env.names l.fn.gives.items l.gives.items l.fn.h l.h;
}
