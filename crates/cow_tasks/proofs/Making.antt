-- A task with its captures, and the tasks of a fork one after the other.
use Rattle.std.proofs.Common.{◌≡◌, ℕ, zero, suc, ◌+◌, ◌*◌, ◌≤◌, ◌<◌, ◌++◌, Bool, List, [], ◌∷◌, length, map, drop, get_or, Ok, ap, sym, ◌∙◌, arith, subst, append_assoc}
use Rattle.std.specs.Prelude.{All}
use Rattle.std.proofs.lemmas.List.{append-nil, map-append}
use Rattle.std.proofs.lemmas.List.Elements.{All-nil}
use Rattle.cow_model.specs.Env as env
use Rattle.cow_model.specs.Fork.{captured_all, captured_by, forked, forked_on}
use Rattle.cow_model.specs.Fronts.{IsFrontOf}
use Rattle.cow_model.specs.Lexis.{Text}
use Rattle.cow_model.specs.Purse.{Purse, part, less}
use Rattle.cow_model.specs.declared.fork.Captured.{Captured}
use Rattle.cow_model.specs.declared.fork.Forked.{Forked}
use Rattle.cow_model.specs.declared.outcome.Environment.{Environment}
use Rattle.cow_model.specs.declared.plain.Literal.{Literal}
use Rattle.cow_model.specs.declared.statement.Capture.{Capture}
use Rattle.cow_model.specs.declared.statement.Statement.{Statement, out-Statement}
use Rattle.cow_model.specs.declared.statement.TaskBlock.{TaskBlock, out-TaskBlock}
use Rattle.cow_eval.specs.Entries.{SeenEntry}
use Rattle.cow_eval.specs.Envs.{AreNear, SeenEnv, CanRun, IsBare, env_of}
use Rattle.cow_eval.specs.Statements.{IsRunnable}
use Rattle.cow_tasks.specs.Blocks.{statements_in, captures_in, count_tasks, count_captures}
use Rattle.cow_tasks.specs.Captures.{Captures, MakesOne, captured_at, captured_start, forked_at}
use Rattle.cow_tasks.specs.Tasks.{SeenTask, IsReady}
use Rattle.cow_tasks.proofs.CaptureLists.{behind, all-behind, forks-grow}
use Rattle.cow_tasks.proofs.Growth.{front-on}
use Rattle.cow_tasks.proofs.Lists.{at-next}

-- where no name is, each is bare, and near
none-bare : (p : Literal → Bool) (names : List SeenEntry) → names ≡ [] → IsBare p names
none-bare p names none = subst (IsBare p) (sym none) (All-nil _)

none-near : (m : ℕ) (names : List SeenEntry) → names ≡ [] → AreNear m names
none-near m names none = subst (AreNear m) (sym none) (All-nil _)

module _ (p : Literal → Bool) (share n : ℕ) (captures : List Capture) (statements : List Statement) (parent parent' new task' : SeenEnv) (said said' : Text) (h h1 h2 : Purse)
    (start : env_of new ≡ env.start) (none : new.names ≡ []) (part-is : h2 ≡ part share)
    (did : Captures p n (captured_all (captured_at parent new said) captures) parent parent' new task' said said' h h1 (Ok tt)) where
  seen : SeenTask
  seen = record { statements = statements; env = task'; h = h2 }

  -- what a task may rely on holds of it
  pub made-ready : All (λ s. IsRunnable (out-Statement s)) statements → CanRun (length statements) parent (part share) → IsReady (record { statements = statements; env = task'; h = h2 })
  made-ready runs ready =
      let few = ready.few in
      let spare = ready.spare in
      let zero-allowed = ap (λ e. e.allowed) start in
      let allowed = did.of_task.allowed in
      let units = ap (λ x. x.spare) part-is in
      record {
        statements = runs;
        can_run = record {
          few = few;
          allowed = omega (arith, few, zero-allowed, allowed);
          near = (did.near (length statements) ready.near (none-near (length statements) new.names none)).1;
          spare = omega (arith, spare, units);
        };
      }

  -- and it is what the definitions say
  pub made-one : (h' : Purse) → share + n ≤ h.spare → h' ≡ less share h1 → MakesOne p share n (captured_all (captured_start parent said) captures) parent parent' said said' h h' (record { statements = statements; env = task'; h = h2 })
  made-one h' units rest =
      let fell = did.falls in
      let left = ap (λ x. x.spare) rest in
      record {
        done = did.done ∙ ap (λ (e : Environment). captured_all (record { parent = (env_of parent).names; names = e.names; text = said }) captures) start;
        start = record {
          env = ap {B = Environment} (λ r. record { names = (env_of task').names; room = r; allowed = task'.allowed }) (did.of_task.room ∙ ap (λ e. e.room) start)
              ∙ ap {B = Environment} (λ a. record { names = (env_of task').names; room = env.max_shown; allowed = a }) (did.of_task.allowed ∙ ap (λ e. e.allowed) start);
          h = part-is;
        };
        falls = omega (arith, fell, left, units);
        near = λ m near. did.near m near (none-near m new.names none);
        bare = λ bare.
            let both = did.bare bare (none-bare p new.names none) in
            let sum = both.sum in
            let empty = ap length none in
            (both.first, both.second, omega (arith, sum, left, fell, units, empty));
      }

-- ---- tasks one after the other

-- fewer statements may be run, too
pub can-less : (m n : ℕ) (env' : SeenEnv) (h : Purse) → m ≤ n → CanRun n env' h → CanRun m env' h
can-less m n env' h less can =
    let few = can.few in
    let allowed = can.allowed in
    let spare = can.spare in
    record {
      few = omega (arith, less, few);
      allowed = omega (arith, less, allowed);
      near = λ k d lt. let near = can.near k d lt in omega (arith, less, near);
      spare = omega (arith, less, spare);
    }

-- the tasks behind have no more statements than all
count-drop : (ts : List TaskBlock) (i : ℕ) → count_tasks (drop i ts) ≤ count_tasks ts
count-drop ts zero = omega arith
count-drop [] (suc i) = omega arith
count-drop (t ∷ ts) (suc i) = omega (arith, count-drop ts i)

module _ (blocks : List TaskBlock) (i : ℕ) (b : TaskBlock) (within : i < length blocks) (is : b ≡ get_or blocks i b) where
  next-count : length (statements_in b) + count_tasks (drop (i + 1) blocks) ≡ count_tasks (drop i blocks)
  next-count = at-next blocks i b within is count_tasks

  pub next-captures : captures_in b + count_captures (drop (i + 1) blocks) ≡ count_captures (drop i blocks)
  next-captures = at-next blocks i b within is count_captures

  next-length : suc (length (drop (i + 1) blocks)) ≡ length (drop i blocks)
  next-length = at-next blocks i b within is length

  -- a task may run what all tasks may
  pub ready-one : (share : ℕ) (before parent : SeenEnv) → CanRun (count_tasks blocks) before (part share) → AreNear (count_tasks blocks) parent.names → parent.allowed ≡ before.allowed → CanRun (length (statements_in b)) parent (part share)
  ready-one share before parent can near allowed =
      let few = can.few in
      let most = can.allowed in
      can-less (length (statements_in b)) (count_tasks blocks) parent (part share) (omega (arith, next-count, count-drop blocks i)) (record { few = few; allowed = omega (arith, most, allowed); near = near; spare = can.spare })

  -- share for each of the tasks that are left, one of which is next
  pub share-next : (share : ℕ) → share * length (drop i blocks) ≡ share * length (drop (i + 1) blocks) + share
  share-next share = ap (λ k. share * k) (sym next-length) ∙ omega arith

  -- the units are there
  pub units-one : (share before now : ℕ) → share * length blocks + count_captures blocks ≤ before → before + share * length (drop i blocks) + count_captures (drop i blocks) ≤ now + share * length blocks + count_captures blocks → share + captures_in b ≤ now
  units-one share before now all so-far = omega (arith, all, so-far, share-next share, next-captures)

  module _ (parent : SeenEnv) (said said' : Text) (tasks : List SeenTask) where
    -- what its captures print stands behind what was said before
    behind-is : captured_all (captured_start parent said) (out-TaskBlock b).captures ≡ behind said (captured_all (captured_start parent []) (out-TaskBlock b).captures)
    behind-is = ap (λ text. captured_all (captured_start parent text) (out-TaskBlock b).captures) (sym (append-nil said)) ∙ all-behind said (captured_start parent []) (out-TaskBlock b).captures

    -- a fork that one task more has its captures of
    abbrev next : Forked
    next = forked_on (forked_at parent tasks said) (captured_by (env_of parent).names b)

    whole : forked next (drop (i + 1) blocks) ≡ forked (forked_at parent tasks said) (drop i blocks)
    whole = at-next blocks i b within is (forked (forked_at parent tasks said))

    -- a front of what its captures print is one of what all print
    pub front-one : (start : Forked) → forked (forked_at parent tasks said) (drop i blocks) ≡ start → IsFrontOf said' (captured_all (captured_start parent said) (out-TaskBlock b).captures).text → IsFrontOf said' start.text
    front-one start so-far front =
        let here-text = subst (λ (c : Captured). IsFrontOf said' c.text) behind-is front in
        subst (λ (f : Forked). IsFrontOf said' f.text) (whole ∙ so-far) (front-on said' next.text (forked next (drop (i + 1) blocks)).text here-text (forks-grow next (drop (i + 1) blocks)))

    -- the fork of the definitions goes on
    pub done-one : (parent' : SeenEnv) (t : SeenTask) (start : Forked) → forked (forked_at parent tasks said) (drop i blocks) ≡ start → captured_at parent' t.env said' ≡ captured_all (captured_start parent said) (out-TaskBlock b).captures → forked (forked_at parent' (tasks ++ t ∷ []) said') (drop (i + 1) blocks) ≡ start
    done-one parent' t start so-far done =
        let made = done ∙ behind-is in
        let same : forked_at parent' (tasks ++ t ∷ []) said' ≡ next =
        ap {B = Forked} (λ ts. record { parent = (env_of parent').names; text = said'; tasks = ts }) (map-append (λ (x : SeenTask). (env_of x.env).names) tasks (t ∷ []))
        ∙ ap {B = Forked} (λ (c : Captured). record { parent = c.parent; text = c.text; tasks = map (λ (x : SeenTask). (env_of x.env).names) tasks ++ c.names ∷ [] }) made in
        ap (λ f. forked f (drop (i + 1) blocks)) same ∙ (whole ∙ so-far)

  -- the statements of the tasks so far, and of those to come
  pub statements-one : (tasks : List SeenTask) (t : SeenTask) (all : List (List Statement)) → t.statements ≡ statements_in b → map (λ (x : SeenTask). x.statements) tasks ++ map statements_in (drop i blocks) ≡ all → map (λ (x : SeenTask). x.statements) (tasks ++ t ∷ []) ++ map statements_in (drop (i + 1) blocks) ≡ all
  statements-one tasks t all same so-far =
      ap (λ l. l ++ map statements_in (drop (i + 1) blocks)) (map-append (λ (x : SeenTask). x.statements) tasks (t ∷ []))
      ∙ (append_assoc (map (λ (x : SeenTask). x.statements) tasks) (t.statements ∷ []) (map statements_in (drop (i + 1) blocks))
      ∙ (ap (λ ss. map (λ (x : SeenTask). x.statements) tasks ++ ss ∷ map statements_in (drop (i + 1) blocks)) same
      ∙ (ap (λ l. map (λ (x : SeenTask). x.statements) tasks ++ l) (at-next blocks i b within is (map statements_in)) ∙ so-far)))
