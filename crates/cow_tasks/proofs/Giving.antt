-- What one statement of a task does.
use Rattle.std.proofs.Common.{◌≡◌, ℕ, ◌+◌, ◌≤◌, ◌<◌, ◌^◌, ◌++◌, Bool, List, [], ◌∷◌, map, None, Result, Ok, Err, ap, ◌∙◌, arith, refl}
use Rattle.std.specs.Prelude.{⊤, OnOk, OnErr}
use Rattle.std.proofs.lemmas.List.{append-nil, length-append, map-append}
use Rattle.cow_model.specs.Env as env
use Rattle.cow_model.specs.Env.{renamed, without}
use Rattle.cow_model.specs.Fork.{give_in, stepped}
use Rattle.cow_model.specs.Fronts.{IsFrontOf}
use Rattle.cow_model.specs.Lexis.{Text}
use Rattle.cow_model.specs.Plain.{stop}
use Rattle.cow_model.specs.Printed.{refusal}
use Rattle.cow_model.specs.Purse.{Purse}
use Rattle.cow_model.specs.declared.fork.Task.{Task}
use Rattle.cow_model.specs.declared.memory.NoMemory.{NoMemory}
use Rattle.cow_model.specs.declared.outcome.Entry.{Entry}
use Rattle.cow_model.specs.declared.outcome.Environment.{Environment}
use Rattle.cow_model.specs.declared.outcome.Outcome.{Outcome}
use Rattle.cow_model.specs.declared.plain.Literal.{Literal}
use Rattle.cow_model.specs.declared.refusal.Refusal.TheVariants.{NoName}
use Rattle.cow_model.proofs.ListSteps.{All-push}
use Rattle.cow_model.proofs.Steps.{value-has}
use Rattle.cow_value.specs.Seen.{units}
use Rattle.cow_eval.specs.Entries.{SeenEntry, entry_of, most_units}
use Rattle.cow_eval.specs.Envs.{AreNear, SeenEnv, CanRun, Costs, Parts, Runs, env_of, entry_in}
use Rattle.cow_eval.proofs.Results.{always, on-ok}
use Rattle.cow_tasks.specs.Tasks.{Works, task_at}
use Rattle.cow_tasks.proofs.Names.{Near, without-has, near-of, near-from}

-- fewer that come after are near, too
pub near-less : (m n : ℕ) (entries : List SeenEntry) → m ≤ n → AreNear n entries → AreNear m entries
near-less m n entries less near = λ k d lt. let one = near k d lt in omega (arith, less, one)

-- after a statement that changes nothing but the names, one fewer may be run
can-next : (m : ℕ) (before after : SeenEnv) (h h' : Purse) → CanRun (m + 1) before h → AreNear m after.names → after.allowed ≡ before.allowed → h.spare ≤ h'.spare + 1 → CanRun m after h'
can-next m before after h h' can near allowed falls =
    let few = can.few in
    let most = can.allowed in
    let spare = can.spare in
    record { few = omega (arith, few); allowed = omega (arith, most, allowed); near = near; spare = omega (arith, spare, falls) }

-- a statement that copies nothing and allows nothing
no-costs : (before after : SeenEnv) (h h' : Purse) → after.allowed ≡ before.allowed → h'.copied ≡ h.copied → h.spare ≤ h'.spare + 1 → Costs 0 1 before after h h'
no-costs before after h h' allowed copied falls = record { copied = record { copied = omega (arith, allowed, copied); kept = omega (arith, copied) }; falls = omega (arith, falls) }

-- the task at this environment, this text and these gives
abbrev at : Environment → Text → List Entry → Task
at e text gives = record { env = e; text = text; gives = gives }

-- what is there is a front of what there is and a refusal
front-refused : (said said' : Text) (r : Result ⊤ NoMemory) → OnErr r (said' ≡ said) → OnErr r (IsFrontOf said' (said ++ refusal NoName))
front-refused said said' (Ok x) h = _
front-refused said said' (Err x) h = (refusal NoName, ap (λ t. t ++ refusal NoName) h)

-- a give of a name that isn't there
pub not-given : (p : Literal → Bool) (name to : Text) (before : SeenEnv) (gives : List SeenEntry) (said said' : Text) (h : Purse) (r : Result ⊤ NoMemory) →
    entry_in name before ≡ None → OnOk r (said' ≡ said ++ refusal NoName) → OnErr r (said' ≡ said) →
    Works p ⊤ 1 (give_in (task_at before said gives) to (entry_in name before)) before before gives gives said said' h h r
not-given p name to before gives said said' h r lacks ok err = rw lacks (record {
  done = on-ok _ _ r ok (λ told. ap (λ t. at (env_of before) t (map entry_of gives)) told);
  kept = front-refused said said' r err;
  most = omega arith;
  rises = omega arith;
  costs = no-costs before before h h refl refl (omega arith);
  next = λ m can. always _ r (can-next m before before h h can (near-less m (m + 1) before.names (omega arith) can.near) refl (omega arith));
  near = λ m few names near. always _ r (near-less m (m + 1) before.names (omega arith) names, near-less m (m + 1) gives (omega arith) near);
  bare = λ names others none. always _ r (record { first = names; second = others; sum = refl });
})

module _ (p : Literal → Bool) (name to : Text) (before after : SeenEnv) (gives : List SeenEntry) (said : Text) (h h' : Purse) (e : SeenEntry) (parts : Parts p name before after e) where
  same-allowed : after.allowed ≡ before.allowed
  same-allowed = ap (λ x. x.allowed) parts.rest

  near-after : (m : ℕ) → AreNear (m + 1) before.names → AreNear m after.names
  near-after m near =
      let all = near-of (m + 1) before.names near in
      near-less m (m + 1) after.names (omega arith) (near-from (m + 1) after.names _ (ap (λ x. x.names) parts.rest) (without-has (Near (m + 1)) name (map entry_of before.names) all))

  near-gone : (m : ℕ) → AreNear (m + 1) before.names → Near m e.seen.value
  near-gone m near =
      let all = near-of (m + 1) before.names near in
      let value = value-has (Near (m + 1)) (env.place_of name (env_of before).names) (env_of before).names (entry_of e) parts.found all in
      omega (arith, value)

  -- a give
  pub given : Works p ⊤ 1 (give_in (task_at before said gives) to (entry_in name before)) before after gives (gives ++ record e { name = to } ∷ []) said said h h (Ok tt)
  given =
      let rest = parts.rest in
      let found = parts.found in
      rw (found, parts.named) (record {
        done = ap (λ n. at n said (map entry_of (gives ++ record e { name = to } ∷ []))) rest ∙ ap (λ gs. at (renamed (without name (env_of before).names) (env_of before)) said gs) (map-append entry_of gives (record e { name = to } ∷ []));
        kept = _;
        most = omega (arith, same-allowed);
        rises = omega (arith, same-allowed);
        costs = no-costs before after h h same-allowed refl (omega arith);
        next = λ m can. can-next m before after h h can (near-after m can.near) same-allowed (omega arith);
        near = λ m few names near. (near-after m names, All-push (λ (x : SeenEntry). stop x.seen.value + m ≤ 2 ^ 31) gives (record e { name = to }) (near-less m (m + 1) gives (omega arith) near) (near-gone m names));
        bare = λ names others none.
            let bare = parts.bare names in
            let fewer = parts.fewer in
            record {
              first = bare.0;
              second = All-push (λ (x : SeenEntry). units p x.seen ≡ 0) gives (record e { name = to }) others bare.1;
              sum = omega (arith, fewer, length-append gives (record e { name = to } ∷ []));
            };
      })

  -- a give for which there is no memory: the handle comes back
  pub given-err : (x : NoMemory) → h'.copied ≡ h.copied → h.spare ≤ h'.spare → Works p ⊤ 1 (give_in (task_at before said gives) to (entry_in name before)) before after gives gives said said h h' (Err x)
  given-err x copied falls =
      let found = parts.found in
      rw found (record {
        done = _;
        kept = ([], append-nil said);
        most = omega (arith, same-allowed);
        rises = omega (arith, same-allowed);
        costs = no-costs before after h h' same-allowed copied (omega (arith, falls));
        next = λ m can. _;
        near = λ m few names near. _;
        bare = λ names others none. _;
      })

-- any other statement, by what it does to an environment
module _ (p : Literal → Bool) (brings_none : Type 0) (out : Outcome) (before after : SeenEnv) (gives : List SeenEntry) (said said' : Text) (h h' : Purse) where
  kept-front : (r : Result ⊤ NoMemory) → OnErr r (said' ≡ said) → OnErr r (IsFrontOf said' (said ++ out.text))
  kept-front (Ok x) h = _
  kept-front (Err x) h = (out.text, ap (λ t. t ++ out.text) h)

  most-allowed : (r : Result ⊤ NoMemory) → OnOk r (env_of after ≡ out.env) → OnErr r (after.allowed ≤ out.env.allowed) → after.allowed ≤ out.env.allowed
  most-allowed (Ok x) is most = omega (arith, ap (λ e. e.allowed) is)
  most-allowed (Err x) is most = most

  joined-ok : (A B : Type 0) (r : Result ⊤ NoMemory) → OnOk r A → OnOk r B → OnOk r (A × B)
  joined-ok A B (Ok x) a b = (a, b)
  joined-ok A B (Err x) a b = _

  pub stepped-works : (r : Result ⊤ NoMemory) → Runs p brings_none 0 out before after said said' h h' r → ((n : ℕ) → CanRun (n + 1) before h → OnOk r (CanRun n after h')) → after.allowed ≤ before.allowed + most_units → ((n : ℕ) → n < 2 ^ 30 → AreNear (n + 1) before.names → OnOk r (AreNear n after.names)) →
      Works p brings_none 1 (stepped (task_at before said gives) out) before after gives gives said said' h h' r
  stepped-works r did next rises nears = record {
    done = on-ok _ _ r (joined-ok _ _ r did.env did.text) (λ both. ap (λ e. at e said' (map entry_of gives)) both.0 ∙ ap (λ t. at out.env t (map entry_of gives)) both.1);
    kept = kept-front r did.kept;
    most = most-allowed r did.env did.most;
    rises = omega (arith, rises);
    costs = did.costs;
    next = next;
    near = λ m few names near. on-ok _ _ r (nears m (omega (arith, few)) names) (λ after-near. (after-near, near-less m (m + 1) gives (omega arith) near));
    bare = λ names others none. on-ok _ _ r (did.bare names none) (λ b. let sum = b.sum in record { first = b.bare; second = others; sum = omega (arith, sum) });
  }
