-- One capture, from what the parent hands over and the task accepts.
use Rattle.std.proofs.Common.{◌≡◌, ℕ, ◌+◌, ◌≤◌, ◌++◌, Bool, List, [], length, map, Result, Ok, Err, None, ap, sym, ◌∙◌, arith, subst, refl}
use Rattle.std.specs.Prelude.{⊤, OnOk, OnErr}
use Rattle.std.proofs.lemmas.List.{append-nil}
use Rattle.cow_model.specs.Env as env
use Rattle.cow_model.specs.Env.{given, without, settled, shared, renamed}
use Rattle.cow_model.specs.Fork.{captured}
use Rattle.cow_model.specs.Fronts.{IsFrontOf}
use Rattle.cow_model.specs.Lexis.{Text}
use Rattle.cow_model.specs.Printed.{refusal}
use Rattle.cow_model.specs.Purse.{Purse, less}
use Rattle.cow_model.specs.declared.fork.Captured.{Captured}
use Rattle.cow_model.specs.declared.memory.NoMemory.{NoMemory}
use Rattle.cow_model.specs.declared.outcome.Entry.{Entry}
use Rattle.cow_model.specs.declared.plain.Literal.{Literal}
use Rattle.cow_model.specs.declared.refusal.Refusal.TheVariants.{NoName}
use Rattle.cow_model.specs.declared.statement.Capture.{Capture}
use Rattle.cow_model.proofs.Steps.{value-has}
use Rattle.cow_value.specs.Seen.{units}
use Rattle.cow_eval.specs.Entries.{SeenEntry, entry_of}
use Rattle.cow_eval.specs.Envs.{AreNear, SeenEnv, Balances, IsBare, Lends, Parts, env_of, entry_in}
use Rattle.cow_eval.proofs.Results.{always, on-ok}
use Rattle.cow_tasks.specs.Captures.{Captures, KeepsRest, captured_at, copying, moving}
use Rattle.cow_tasks.specs.Tasks.{BalancesBoth}
use Rattle.cow_tasks.proofs.CaptureLists.{one-grows}
use Rattle.cow_tasks.proofs.Names.{Near, given-has, without-has, settled-has, near-of, near-from}

-- what a call of `accept` did
pub record Accepts (p : Literal → Bool) (e : SeenEntry) (before after : SeenEnv) (h h' : Purse) (r : Result ⊤ NoMemory) : Type 0 where
  pub ok : OnOk r (env_of after ≡ renamed (given (entry_of e) (env_of before).names) (env_of before))
  pub allowed : after.allowed ≡ before.allowed
  pub copied : h'.copied ≡ h.copied
  pub falls : h.spare ≤ h'.spare
  pub bare : IsBare p before.names → units p e.seen ≡ 0 → OnOk r (Balances p 1 before.names after.names h h')

-- the captures at these names and this text
abbrev at : List Entry → List Entry → Text → Captured
at parent names text = record { parent = parent; names = names; text = text }

-- what a refusal leaves after want of memory
front-refused : (said said' : Text) (r : Result ⊤ NoMemory) → OnErr r (said' ≡ said) → OnErr r (IsFrontOf said' (said ++ refusal NoName))
front-refused said said' (Ok x) h = _
front-refused said said' (Err x) h = (refusal NoName, ap (λ t. t ++ refusal NoName) h)

-- a text that stays is a front of itself
front-same : (said : Text) (r : Result ⊤ NoMemory) → OnErr r (IsFrontOf said said)
front-same said (Ok x) = _
front-same said (Err x) = ([], append-nil said)

-- want of memory before anything is done
pub nothing-done : (p : Literal → Bool) (moves : Bool) (name : Text) (parent task : SeenEnv) (said : Text) (h : Purse) (e : NoMemory) →
    Captures p 1 (captured (captured_at parent task said) (record { moves = moves; name = name }) (entry_in name parent)) parent parent task task said said h h (Err e)
nothing-done p moves name parent task said h e = record {
  done = _;
  kept = one-grows (captured_at parent task said) moves name (entry_in name parent);
  grows = ([], append-nil said);
  of_parent = record { room = refl; allowed = refl };
  of_task = _;
  copied = refl;
  falls = omega arith;
  near = λ m parent-near task-near. _;
  bare = λ parent-bare task-bare. _;
}

-- what is told stands behind what there was
told-grows : (said said' : Text) (r : Result ⊤ NoMemory) → OnOk r (said' ≡ said ++ refusal NoName) → OnErr r (said' ≡ said) → IsFrontOf said said'
told-grows said said' (Ok x) ok err = (refusal NoName, sym ok)
told-grows said said' (Err x) ok err = ([], append-nil said ∙ sym err)

-- a capture of a name that isn't there
pub not-there : (p : Literal → Bool) (capture : Capture) (name : Text) (parent task : SeenEnv) (said said' : Text) (h : Purse) (r : Result ⊤ NoMemory) →
    entry_in name parent ≡ None → OnOk r (said' ≡ said ++ refusal NoName) → OnErr r (said' ≡ said) →
    Captures p 1 (captured (captured_at parent task said) capture (entry_in name parent)) parent parent task task said said' h h r
not-there p capture name parent task said said' h r lacks ok err = rw lacks (record {
  done = on-ok _ _ r ok (λ told. ap (at (env_of parent).names (env_of task).names) told);
  kept = front-refused said said' r err;
  grows = told-grows said said' r ok err;
  of_parent = record { room = refl; allowed = refl };
  of_task = always _ r (record { room = refl; allowed = refl });
  copied = refl;
  falls = omega arith;
  near = λ m parent-near task-near. always _ r (parent-near, task-near);
  bare = λ parent-bare task-bare. always _ r (record { first = parent-bare; second = task-bare; sum = refl });
})

-- the units of two lists of names, one of which gives what the other takes
balanced : (p : Literal → Bool) (a a' b b' : List SeenEntry) (h h1 h' : Purse) → h1.spare + length a' + 1 ≡ h.spare + length a → IsBare p a' → Balances p 1 b b' h1 h' → BalancesBoth p a a' b b' h h'
balanced p a a' b b' h h1 h' one bare two = let sum = two.sum in record { first = bare; second = two.bare; sum = omega (arith, one, sum) }

module _ (p : Literal → Bool) (name : Text) (parent parent' task task' : SeenEnv) (said : Text) (e : SeenEntry) (h h1 h' : Purse) (r : Result ⊤ NoMemory) (accepts : Accepts p e task task' h1 h' r) where
  -- what is left of the parent's names
  rest-names : (names : List Entry) → env_of parent' ≡ renamed names (env_of parent) → (env_of parent').names ≡ names
  rest-names names is = ap (λ x. x.names) is

  of-task : OnOk r (KeepsRest task task')
  of-task = on-ok _ _ r accepts.ok (λ put. record { room = ap (λ x. x.room) put; allowed = ap (λ x. x.allowed) put })

  -- the names of the task are near where the entry is
  near-task : (m : ℕ) → Near m e.seen.value → AreNear m task.names → OnOk r (AreNear m task'.names)
  near-task m value near = on-ok _ _ r accepts.ok (λ put. near-from m task'.names _ (ap (λ x. x.names) put) (given-has (Near m) (entry_of e) (map entry_of task.names) value (near-of m task.names near)))

  both : (A B : Type 0) → A → OnOk r B → OnOk r (A × B)
  both A B a b = on-ok B (A × B) r b (λ y. (a, y))

  -- a capture of the whole value
  pub moves : Parts p name parent parent' e → h1 ≡ h → Captures p 1 (captured (captured_at parent task said) (moving name) (entry_in name parent)) parent parent' task task' said said h h' r
  moves parts same =
      let left = rest-names (without name (env_of parent).names) parts.rest in
      let spare = ap (λ x. x.spare) same in
      let copies = ap (λ x. x.copied) same in
      let found = parts.found in
      rw (found, parts.named) (record {
        done = on-ok _ _ r accepts.ok (λ put. ap (λ n. at n (env_of task').names said) left ∙ ap (λ n. at (without name (env_of parent).names) n said) (ap (λ x. x.names) put ∙ ap (λ n. given (record { name = n; value = e.seen.value; alone = e.flag }) (env_of task).names) parts.named));
        kept = front-same said r;
        grows = ([], append-nil said);
        of_parent = record { room = ap (λ x. x.room) parts.rest; allowed = ap (λ x. x.allowed) parts.rest };
        of_task = of-task;
        copied = let c = accepts.copied in omega (arith, c, copies);
        falls = let f = accepts.falls in omega (arith, f, spare);
        near = λ m parent-near task-near.
            let all = near-of m parent.names parent-near in
            let value = value-has (Near m) (env.place_of name (env_of parent).names) (env_of parent).names (entry_of e) found all in
            both _ _ (near-from m parent'.names _ left (without-has (Near m) name (map entry_of parent.names) all)) (near-task m value task-near);
        bare = λ parent-bare task-bare.
            let bare = parts.bare parent-bare in
            let fewer = parts.fewer in
            on-ok _ _ r (accepts.bare task-bare bare.1) (λ b. balanced p parent.names parent'.names task.names task'.names h h1 h' (omega (arith, spare, fewer)) bare.0 b);
      })

  -- a capture of a second value
  pub copies : Lends p name parent parent' e → h1 ≡ less 1 h → 1 ≤ h.spare → Captures p 1 (captured (captured_at parent task said) (copying name) (entry_in name parent)) parent parent' task task' said said h h' r
  copies lends spent one =
      let left = rest-names (settled name (env_of parent).names) lends.rest in
      let spare = ap (λ x. x.spare) spent in
      let copies = ap (λ x. x.copied) spent in
      let found = lends.found in
      rw (found, lends.named) (record {
        done = on-ok _ _ r accepts.ok (λ put. ap (λ n. at n (env_of task').names said) left ∙ ap (λ n. at (settled name (env_of parent).names) n said) (ap (λ x. x.names) put ∙ ap (λ x. given x (env_of task).names) (lends.copy ∙ ap (λ n. shared (record { name = n; value = lends.whole.value; alone = lends.whole.alone })) lends.named)));
        kept = front-same said r;
        grows = ([], append-nil said);
        of_parent = record { room = ap (λ x. x.room) lends.rest; allowed = ap (λ x. x.allowed) lends.rest };
        of_task = of-task;
        copied = let c = accepts.copied in omega (arith, c, copies);
        falls = let f = accepts.falls in omega (arith, f, spare, one);
        near = λ m parent-near task-near.
            let all = near-of m parent.names parent-near in
            let value = value-has (Near m) (env.place_of name (env_of parent).names) (env_of parent).names lends.whole found all in
            both _ _ (near-from m parent'.names _ left (settled-has (Near m) name (map entry_of parent.names) all)) (near-task m (subst (Near m) (sym (ap (λ x. x.value) lends.copy)) value) task-near);
        bare = λ parent-bare task-bare.
            let bare = lends.bare parent-bare in
            let many = lends.as_many in
            on-ok _ _ r (accepts.bare task-bare bare.1) (λ b. balanced p parent.names parent'.names task.names task'.names h h1 h' (omega (arith, spare, many, one)) bare.0 b);
      })
