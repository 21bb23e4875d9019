use Rattle.std.proofs.Common.{◌≡◌, ℕ, ◌≤◌, length, map}
use Rattle.cow_model.specs.Fork.{assigned_all}
use Rattle.cow_model.specs.Fronts.{IsFrontOf}
use Rattle.cow_eval.specs.Entries.{entry_of}
use Rattle.cow_eval.specs.Envs.{AreNear, Balances, IsBare}
use Rattle.cow_tasks.specs.Joins.{outcome_at}
use Rattle.cow_tasks.proofs.join.assign_all.Given as goal

-- the entries so far are assigned
abbrev pub invariant-loop-entry : goal.invariant-loop-entry
invariant-loop-entry g l = record {
  done : outcome_at l.env l.text.items ≡ assigned_all (outcome_at l.fn.env l.fn.text.items) (map entry_of l.yielded);
  grows : IsFrontOf l.fn.text.items l.text.items;
  allowed : l.env.allowed ≡ l.fn.env.allowed;
  copied : l.h.copied ≡ l.fn.h.copied;
  falls : l.fn.h.spare ≤ l.h.spare;
  near : (m : ℕ) → AreNear m l.fn.env.names → AreNear m l.yielded → AreNear m l.env.names;
  bare : IsBare g.V.Shown.counted l.fn.env.names → IsBare g.V.Shown.counted l.yielded → Balances g.V.Shown.counted (length l.yielded) l.fn.env.names l.env.names l.fn.h l.h;
}
