use Rattle.std.proofs.Common.{◌≡◌, ◌≤◌, ◌+◌, ◌*◌, ◌-◌, ◌^◌, ◌++◌, true, map, drop}
use Rattle.std.specs.Prelude.{min}
use Rattle.std.specs.Io.{StartsWith}
use Rattle.cow_model.specs.Atoms.{IsBareBlock}
use Rattle.cow_model.specs.Purse.{RisesWithin}
use Rattle.cow_model.specs.Run.{env_after, text_from, least_from}
use Rattle.cow_views.specs.Asks.{asks_from, raised_by}
use Rattle.cow_eval.specs.Entries.{most_units}
use Rattle.cow_eval.specs.Envs.{CanRun, env_of, IsBare, Balances}
use Rattle.cow_tasks.specs.Blocks.{HasParts, count_in, has_fork}
use Rattle.cow_tasks.proofs.block.run_block.Given as goal

-- what the statements so far did, copied and asked, and what those to come would do
abbrev pub invariant-loop-statement : goal.invariant-loop-statement
invariant-loop-statement g l =
    let all = map (λ rule. (goal.Rule-dyn g (rule.vtable, rule.value)).shape_of rule.value) l.fn.rules.items in
    record {
      shapes : map (λ rule. (goal.Rule-dyn g (rule.vtable, rule.value)).shape_of rule.value) l.rules.items ≡ all;
      asked : raised_by (λ k. asks_from (env_of l.env) all k (drop l.statement-index l.block)) (map (λ rule. (goal.Rule-dyn g (rule.vtable, rule.value)).asked_of rule.value) l.rules.items) ≡ raised_by (λ k. asks_from (env_of l.fn.env) all k l.block) (map (λ rule. (goal.Rule-dyn g (rule.vtable, rule.value)).asked_of rule.value) l.fn.rules.items);
      env : env_after (env_of l.env) all (drop l.statement-index l.block) ≡ env_after (env_of l.fn.env) all l.block;
      text : l.text.items ++ text_from (env_of l.env) all (drop l.statement-index l.block) ≡ l.fn.text.items ++ text_from (env_of l.fn.env) all l.block;
      kept : StartsWith l.text.items l.fn.text.items;
      copied : RisesWithin l.fn.env.allowed l.env.allowed l.fn.h l.h;
      least : min (l.fn.h.copied + least_from (env_of l.fn.env) all l.block) (2 ^ 64 - 1) ≤ min (l.h.copied + least_from (env_of l.env) all (drop l.statement-index l.block)) (2 ^ 64 - 1);
      ready : CanRun (count_in (drop l.statement-index l.block)) l.env l.h;
      parts : has_fork (drop l.statement-index l.block) ≡ true → HasParts (count_in (drop l.statement-index l.block)) l.h;
      forks : has_fork (drop l.statement-index l.block) ≡ true → has_fork l.block ≡ true;
      falls : l.fn.h.spare + count_in (drop l.statement-index l.block) * most_units ≤ l.h.spare + count_in l.block * most_units;
      bare : IsBare g.V.Shown.counted l.fn.env.names → IsBareBlock g.V.Shown.counted l.block → Balances g.V.Shown.counted 0 l.fn.env.names l.env.names l.fn.h l.h;
    }
