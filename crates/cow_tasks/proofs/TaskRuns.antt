-- The statements of a task in turn: what they print and allow.
use Rattle.std.proofs.Common.{◌≡◌, ◌+◌, ◌≤◌, Bool, List, [], ◌∷◌, length, Option, Some, None, Result, ap, subst, arith}
use Rattle.std.specs.Prelude.{⊤, All}
use Rattle.std.proofs.lemmas.List.{append-nil}
use Rattle.std.proofs.lemmas.List.Elements.{All-nil}
use Rattle.cow_model.specs.Atoms.{IsBareStep}
use Rattle.cow_model.specs.Env.{entry_of}
use Rattle.cow_model.specs.Fork.{give_in, task_step, task_run}
use Rattle.cow_model.specs.Fronts.{IsFrontOf}
use Rattle.cow_model.specs.Lexis.{Text}
use Rattle.cow_model.specs.Printed.{refusal}
use Rattle.cow_model.specs.Purse.{Purse}
use Rattle.cow_model.specs.Sharing.{Layer}
use Rattle.cow_model.specs.Step.{step}
use Rattle.cow_model.specs.declared.fork.Task.{Task}
use Rattle.cow_model.specs.declared.memory.NoMemory.{NoMemory}
use Rattle.cow_model.specs.declared.outcome.Entry.{Entry}
use Rattle.cow_model.specs.declared.plain.Literal.{Literal}
use Rattle.cow_model.specs.declared.refusal.Refusal.TheVariants.{NoName}
use Rattle.cow_model.specs.declared.statement.Statement.{Statement, out-Statement}
use Rattle.cow_model.specs.declared.statement.Statement.TheOpen.{Statement-F}
use Rattle.cow_model.proofs.StepAllows.{step_allows}
use Rattle.cow_eval.specs.Entries.{SeenEntry}
use Rattle.cow_eval.specs.Envs.{SeenEnv, IsBare}
use Rattle.cow_eval.proofs.Results.{on-ok}
use Rattle.cow_tasks.specs.Tasks.{SeenTask, Ends, Works, end_of}
use Rattle.cow_tasks.proofs.Growth.{front-on, front-of}

give-grows : (t : Task) (to : Text) (found : Option Entry) → IsFrontOf t.text (give_in t to found).text
give-grows t to None = front-of t.text (refusal NoName)
give-grows t to (Some e) = ([], append-nil t.text)

-- a statement prints behind what there is
step-grows : (t : Task) (s : Layer) → IsFrontOf t.text (task_step [] t s).text
step-grows t (Statement-F.Give l y z) = give-grows t z (entry_of y t.env.names)
step-grows t s = front-of t.text (step t.env [] s).text

-- and so do statements in turn
pub run-grows : (t : Task) (ss : List Statement) → IsFrontOf t.text (task_run [] t ss).text
run-grows t [] = ([], append-nil t.text)
run-grows t (s ∷ ss) = front-on t.text (task_step [] t (out-Statement s)).text (task_run [] t (s ∷ ss)).text (step-grows t (out-Statement s)) (run-grows (task_step [] t (out-Statement s)) ss)

-- a front of what has been printed is one of what will be
pub front-run : (t : Task) (ss : List Statement) (front : Text) {end : Task} → task_run [] t ss ≡ end → IsFrontOf front t.text → IsFrontOf front end.text
front-run t ss front is kept = subst (λ (e : Task). IsFrontOf front e.text) is (front-on front t.text (task_run [] t ss).text kept (run-grows t ss))

give-allows : (t : Task) (to : Text) (found : Option Entry) → t.env.allowed ≤ (give_in t to found).env.allowed
give-allows t to None = omega arith
give-allows t to (Some e) = omega arith

-- a statement never lowers what is allowed
step-allows : (t : Task) (s : Layer) → t.env.allowed ≤ (task_step [] t s).env.allowed
step-allows t (Statement-F.Give l y z) = give-allows t z (entry_of y t.env.names)
step-allows t s = omega (arith, step_allows t.env [] s)

-- and neither do statements in turn
pub run-allows : (t : Task) (ss : List Statement) → t.env.allowed ≤ (task_run [] t ss).env.allowed
run-allows t [] = omega arith
run-allows t (s ∷ ss) = omega (arith, step-allows t (out-Statement s), run-allows (task_step [] t (out-Statement s)) ss)

-- a task that has run its statements, and has ended what it still held
pub ends-of : (p : Literal → Bool) (t : SeenTask) (after : SeenEnv) (gives : List SeenEntry) (said : Text) (h1 h' : Purse) (r : Result ⊤ NoMemory) →
    Works p (All (λ s. IsBareStep p (out-Statement s)) t.statements) (length t.statements) (end_of t) t.env after [] gives [] said t.h h1 r →
    h1.spare + length after.names ≤ h'.spare → h'.copied ≡ h1.copied → (IsBare p after.names → h'.spare ≡ h1.spare + length after.names) →
    Ends p t (record { text = said; gives = gives; h = h'; allowed = after.allowed; outcome = r })
ends-of p t after gives said h1 h' r did back copied bare = record {
  text = on-ok _ _ r did.done (λ d. ap (λ (x : Task). x.text) d);
  kept = did.kept;
  gives = on-ok _ _ r did.done (λ d. ap (λ (x : Task). x.gives) d);
  allowed = on-ok _ _ r did.done (λ d. ap (λ (x : Task). x.env.allowed) d);
  most = did.most;
  rises = did.rises;
  copied = let rose = did.costs.copied.copied in let kept = did.costs.copied.kept in record { copied = omega (arith, rose, copied); kept = omega (arith, kept, copied) };
  falls = let fell = did.costs.falls in omega (arith, fell, back);
  near = λ m few names. on-ok _ _ r (did.near m few names (All-nil _)) (λ both. both.1);
  bare = λ names all. on-ok _ _ r (did.bare names (All-nil _) all) (λ b. let sum = b.sum in let ended = bare b.first in (b.second, omega (arith, sum, ended)));
}
