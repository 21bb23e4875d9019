use Rattle.std.proofs.Common.{◌≡◌, true, false, arith, map, rules, refl, sym, w64, to_z, of_z}
use Rattle.cow_model.specs.declared.statement.Statement as statement
use Rattle.cow_model.specs.declared.statement.Statement.{out-Statement}
use Rattle.cow_eval.specs.Envs.{env_of}
use Rattle.cow_eval.specs.Statements.{IsRunnable}
use Rattle.cow_eval.proofs.Asking.{raised-none}
use Rattle.cow_eval.proofs.Results.{always}
use Rattle.cow_tasks.specs.Blocks.{is_fork}
use Rattle.cow_tasks.proofs.Lent.{come-back, same-length}
use Rattle.cow_tasks.proofs.Statements.{performs, performs-fork, unasked}
use Rattle.cow_tasks.proofs.block.run_statement.Goals as goal

pub returns-in-Fork-clause-asked : goal.returns-in-Fork-clause-asked
unfolding statement.out-Statement denote.Hole.Carrier.out
returns-in-Fork-clause-asked g c = rw c.in-Fork.is (always _ c.fork.result (sym (raised-none _ (λ k. refl) _)))

pub returns-in-Fork-clause-step : goal.returns-in-Fork-clause-step
returns-in-Fork-clause-step g c =
    let shapes = map (λ rule. (goal.Rule-dyn g (rule.vtable, rule.value)).shape_of rule.value) c.args.rules.now.items in
    let did = rw c.as_slice.ensures at c.fork.ensures.step in
    performs-fork g.V.Shown.counted shapes c.args.env.now c.fork.new.env c.args.text.now.items c.fork.new.text.items c.args.h.now c.fork.new.h c.fork.result c.args.statement.now c.in-Fork.line c.in-Fork.tasks c.in-Fork.is c.requires.statement.tasks did

pub returns-in-Lazy-clause-asked : goal.returns-in-Lazy-clause-asked
unfolding statement.out-Statement denote.Hole.Carrier.out
returns-in-Lazy-clause-asked g c =
    let shapes = rw c.deref_mut.ensures.value at c.look.ensures.shapes in
    let whole : to_z w64 (of_z w64 c.in-Lazy.i) ≡ c.in-Lazy.i = search rules in
    let asked = rw (c.as_slice-in-Lazy.ensures, c.deref_mut.ensures.value, whole) at c.look.ensures.asked in
    let size = same-length _ c.look.new.rules c.args.rules.now.items shapes in
    let back = come-back c.look.new.rules c.args.rules.now.items c.args.rules.now.len (omega (arith, size, c.deref_mut.ensures.len)) in
    rw (c.in-Lazy.is, back) asked

pub returns-in_default : goal.returns-in_default
returns-in_default g c =
    let s = out-Statement c.args.statement.now in
    let shapes = map (λ rule. (goal.Rule-dyn g (rule.vtable, rule.value)).shape_of rule.value) c.args.rules.now.items in
    let single : is_fork s ≡ false = search rules in
    let runs : IsRunnable s = search rules in
    let did = c.run_step.ensures in
    record {
      there = did.there;
      least = did.least;
      next = search rules;
      shapes = refl;
      asked = always _ c.run_step.result (unasked (env_of c.args.env.now) shapes s runs.built _);
      step = performs g.V.Shown.counted shapes c.args.env.now c.run_step.new.env c.args.text.now.items c.run_step.new.text.items c.args.h.now c.run_step.new.h c.run_step.result s runs.built single did.step;
    }
