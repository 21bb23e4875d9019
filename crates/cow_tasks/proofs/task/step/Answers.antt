use Rattle.std.proofs.Common.{rules, ◌≡◌, []}
use Rattle.cow_model.specs.Atoms.{IsBareStep}
use Rattle.cow_model.specs.Fork.{task_step, stepped}
use Rattle.cow_model.specs.Step.{step}
use Rattle.cow_model.specs.declared.statement.Statement.{out-Statement}
use Rattle.cow_eval.specs.Envs.{env_of}
use Rattle.cow_tasks.specs.Tasks.{task_at}
use Rattle.cow_tasks.proofs.Giving.{stepped-works}
use Rattle.cow_tasks.proofs.task.step.Goals as goal

pub returns-in_default : goal.returns-in_default
returns-in_default g c =
    let s = out-Statement c.args.statement.now in
    let t = task_at c.args.env.now c.args.text.now.items c.args.gives.now.items in
    let same : task_step [] t s ≡ stepped t (step t.env [] s) = search rules in
    rw same (stepped-works g.V.Shown.counted (IsBareStep g.V.Shown.counted s) (step (env_of c.args.env.now) [] s) c.args.env.now c.run_step.new.env c.args.gives.now.items c.args.text.now.items c.run_step.new.text.items c.args.h.now c.run_step.new.h c.run_step.result c.run_step.ensures.step c.run_step.ensures.next c.run_step.ensures.rises c.run_step.ensures.near)
