use Rattle.std.proofs.Common.{◌≡◌, ℕ, ◌≤◌, ◌+◌, ◌*◌, ◌++◌, [], drop, map, length, sum_by, All}
use Rattle.cow_model.specs.Fork.{forked}
use Rattle.cow_eval.specs.Envs.{AreNear, IsBare}
use Rattle.cow_tasks.specs.Blocks.{statements_in, count_captures}
use Rattle.cow_tasks.specs.Captures.{Free, IsStart, forked_at}
use Rattle.cow_tasks.proofs.captures.make_tasks.Given as goal

-- the tasks so far, and what those to come would be given
abbrev pub invariant-loop-block : goal.invariant-loop-block
invariant-loop-block g l = record {
  done : forked (forked_at l.parent l.tasks.items l.text.items) (drop l.block-index l.blocks) ≡ forked (forked_at l.fn.parent [] l.fn.text.items) l.blocks;
  statements : map (λ t. t.statements) l.tasks.items ++ map statements_in (drop l.block-index l.blocks) ≡ map statements_in l.blocks;
  start : All (IsStart l.share) l.tasks.items;
  free : Free l.fn.parent l.parent l.fn.text.items l.text.items l.fn.h l.h;
  units : l.fn.h.spare + l.share * length (drop l.block-index l.blocks) + count_captures (drop l.block-index l.blocks) ≤ l.h.spare + l.share * length l.blocks + count_captures l.blocks;
  near : (m : ℕ) → AreNear m l.fn.parent.names → AreNear m l.parent.names × All (λ t. AreNear m t.env.names) l.tasks.items;
  bare : IsBare g.V.Shown.counted l.fn.parent.names → IsBare g.V.Shown.counted l.parent.names × All (λ t. IsBare g.V.Shown.counted t.env.names) l.tasks.items
      × (l.h.spare + sum_by (λ t. l.share + length t.env.names) l.tasks.items + length l.parent.names ≡ l.fn.h.spare + length l.fn.parent.names);
}
