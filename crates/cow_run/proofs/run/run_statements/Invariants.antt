use Rattle.std.proofs.Common.{◌≡◌, ◌≤◌, map, drop}
use Rattle.cow_eval.specs.Envs.{env_of}
use Rattle.cow_run.proofs.Counts.{Counts}
use Rattle.cow_run.proofs.Ran.{Asked, Stands}
use Rattle.cow_run.proofs.run.run_statements.Given as goal

-- what was written, counted and asked, and what is left to run
abbrev pub invariant-loop-statement : goal.invariant-loop-statement
invariant-loop-statement g l =
    let held = g.K.Sink.held in
    let faults = g.K.Sink.faults in
    let shapes = map (λ rule. (goal.Rule-dyn g (rule.vtable, rule.value)).shape_of rule.value) l.fn.rules.items in
    (faults l.fn.sink ≤ faults l.sink)
    × Stands (held l.fn.sink) (held l.sink) shapes l.statements (drop l.statement-index l.statements) (env_of l.env)
    × Counts g.V.Shown.counted shapes l.statements (drop l.statement-index l.statements) l.env l.h
    × (map (λ rule. (goal.Rule-dyn g (rule.vtable, rule.value)).shape_of rule.value) l.rules.items ≡ shapes)
    × Asked shapes l.statements (drop l.statement-index l.statements) (env_of l.env) (map (λ rule. (goal.Rule-dyn g (rule.vtable, rule.value)).asked_of rule.value) l.fn.rules.items) (map (λ rule. (goal.Rule-dyn g (rule.vtable, rule.value)).asked_of rule.value) l.rules.items)
