-- Statements of the main block that are no forks, whatever rules there are.
use Rattle.std.proofs.Common.{◌≡◌, ℕ, ℤ, ◌+◌, Bool, true, false, List, [], map, refl, ap, sym, ◌∙◌, subst}
use Rattle.std.specs.Prelude.{⊤, All, Result, OnOk}
use Rattle.cow_model.specs.Atoms.{IsBareLayer, IsBareStep, IsBareTask}
use Rattle.cow_model.specs.Env.{entry_of}
use Rattle.cow_model.specs.Lexis.{Text}
use Rattle.cow_model.specs.Purse.{Purse}
use Rattle.cow_model.specs.Fork.{fork_in}
use Rattle.cow_model.specs.Fronts.{GrowsWithin}
use Rattle.cow_model.specs.Run.{run_layer, run_one}
use Rattle.cow_model.specs.Sharing.{Layer}
use Rattle.cow_model.specs.Step.{step, lazy_in}
use Rattle.cow_model.specs.declared.memory.NoMemory.{NoMemory}
use Rattle.cow_model.specs.declared.outcome.Environment.{Environment}
use Rattle.cow_model.specs.declared.outcome.Outcome.{Outcome}
use Rattle.cow_model.specs.declared.plain.Literal.{Literal}
use Rattle.cow_model.specs.declared.shape.Shape.{Shape}
use Rattle.cow_model.specs.declared.statement.Statement.{Statement, out-Statement}
use Rattle.cow_model.specs.declared.statement.Statement.TheOpen.{Statement-F}
use Rattle.cow_model.specs.declared.statement.Statement.TheVariants as statement
use Rattle.cow_model.specs.declared.statement.TaskBlock.{TaskBlock}
use Rattle.cow_model.specs.declared.statement.Verb.{Verb}
use Rattle.cow_value.specs.Built.{is_built}
use Rattle.cow_views.specs.Asks.{asks_layer, raised_by}
use Rattle.cow_eval.specs.Envs.{SeenEnv, Runs, env_of}
use Rattle.cow_eval.proofs.Asking.{raised-none}
use Rattle.cow_eval.proofs.Costs.{no-literals}
use Rattle.cow_eval.proofs.Looking.{is-step}
use Rattle.cow_tasks.specs.Blocks.{AreRunnable, Performs, count_of, count_tasks, is_fork, stays_of, tasks_in}
use Rattle.cow_tasks.proofs.Apart.{fork-runs}

-- a statement that values do asks no rule
asks-none : (env : Environment) (shapes : List Shape) (k : ℕ) (s : Layer) → is_built s ≡ true → asks_layer env shapes k s ≡ 0
asks-none env shapes k (Statement-F.Lazy l n i asked) built = cc
asks-none env shapes k s built = refl

pub unasked : (env : Environment) (shapes : List Shape) (s : Layer) → is_built s ≡ true → (asked : List ℕ) → asked ≡ raised_by (λ k. asks_layer env shapes k s) asked
unasked env shapes s built asked = sym (raised-none _ (λ k. asks-none env shapes k s built) asked)

module _ (p : Literal → Bool) (shapes : List Shape) (before after : SeenEnv) (said said' : Text) (h h' : Purse) (r : Result ⊤ NoMemory) where
  -- a statement that values do
  pub performs : (s : Layer) → is_built s ≡ true → is_fork s ≡ false → Runs p (IsBareStep p s) 0 (step (env_of before) [] s) before after said said' h h' r →
      Performs p (IsBareLayer p s) (is_fork s) (count_of s) (run_layer (env_of before) shapes s) (stays_of s (run_layer (env_of before) shapes s) said said') before after said said' h h' r
  performs (Statement-F.Fork l tasks) built single did = cc
  performs (Statement-F.Lazy l n i asked) built single did = cc
  performs s built single did = record {
    env = did.env;
    text = did.text;
    kept = did.kept;
    most = did.most;
    copied = no-literals did.costs.copied;
    falls = λ ok. did.costs.falls;
    bare = did.bare;
  }

  looks : (out : Outcome) → Runs p ⊤ 0 out before after said said' h h' r → Performs p ⊤ false 1 out (said' ≡ said) before after said said' h h' r
  looks out did = record {
    env = did.env;
    text = did.text;
    kept = did.kept;
    most = did.most;
    copied = no-literals did.costs.copied;
    falls = λ ok. did.costs.falls;
    bare = did.bare;
  }

  -- a lazy statement
  pub performs-lazy : (line : ℕ) (name : Text) (i : ℤ) (asked : Verb) → Runs p ⊤ 0 (lazy_in (env_of before) shapes name i asked) before after said said' h h' r →
      Performs p ⊤ false 1 (step (env_of before) shapes (Statement-F.Lazy line name i asked)) (said' ≡ said) before after said said' h h' r
  performs-lazy line name i asked did = looks _ (subst (λ out. Runs p ⊤ 0 out before after said said' h h' r) (sym (is-step (env_of before) shapes line name i asked)) did)

  -- a fork
  pub performs-fork : (s : Statement) (line : ℕ) (tasks : List TaskBlock) → s ≡ statement.Fork line tasks → AreRunnable (tasks_in (out-Statement s)) →
      Performs p (All (IsBareTask p) tasks) true (1 + count_tasks tasks) (fork_in (env_of before) [] tasks) (GrowsWithin said said' (fork_in (env_of before) [] tasks).text) before after said said' h h' r →
      Performs p (IsBareLayer p (out-Statement s)) (is_fork (out-Statement s)) (count_of (out-Statement s)) (run_one (env_of before) shapes s) (stays_of (out-Statement s) (run_one (env_of before) shapes s) said said') before after said said' h h' r
  performs-fork s line tasks is runs did =
      let opened : out-Statement s ≡ Statement-F.Fork line tasks = ap out-Statement is ∙ statement.outs-Fork line tasks in
      let may : AreRunnable tasks = rw opened at runs in
      rw opened (subst (λ out. Performs p (All (IsBareTask p) tasks) true (1 + count_tasks tasks) out (GrowsWithin said said' out.text) before after said said' h h' r) (sym (fork-runs (env_of before) shapes tasks may)) did)
