-- The tasks of a fork at their ends, as their results tell.
use Rattle.std.proofs.Common.{◌≡◌, ℕ, zero, suc, ◌+◌, ◌*◌, ◌≤◌, ◌^◌, ◌++◌, Bool, List, [], ◌∷◌, length, map, drop, get_or, ap, sym, ◌∙◌, arith, subst, refl, sum_by}
use Rattle.std.specs.Prelude.{⊤, All, IsOk, flat_map}
use Rattle.std.proofs.lemmas.List.{map-append, length-append}
use Rattle.std.proofs.lemmas.List.Elements.{All-nil, All-cons, All-head, All-tail, All-append}
use Rattle.std.proofs.lemmas.List.Sums.{sum_by-cons}
use Rattle.cow_crew.specs.Order.{InOrder}
use Rattle.cow_crew.proofs.Order.{rest_in_order}
use Rattle.cow_model.specs.Atoms.{IsBareStep, IsBareTask}
use Rattle.cow_model.specs.Fork.{tasks_run, task_run, given_by}
use Rattle.cow_model.specs.Plain.{stop}
use Rattle.cow_model.specs.declared.fork.Task.{Task}
use Rattle.cow_model.specs.declared.outcome.Environment.{Environment}
use Rattle.cow_model.specs.declared.plain.Literal.{Literal}
use Rattle.cow_model.specs.declared.statement.Statement.{Statement, out-Statement}
use Rattle.cow_model.specs.declared.statement.TaskBlock.{TaskBlock}
use Rattle.cow_value.specs.Seen.{units}
use Rattle.cow_eval.specs.Entries.{SeenEntry, entry_of, most_units}
use Rattle.cow_eval.specs.Envs.{AreNear, IsBare, env_of}
use Rattle.cow_tasks.specs.Blocks.{statements_in, count_tasks}
use Rattle.cow_tasks.specs.Captures.{IsStart}
use Rattle.cow_tasks.specs.Joins.{AllTell}
use Rattle.cow_tasks.specs.Tasks.{SeenTask, SeenOut, Ends, end_of}
use Rattle.cow_tasks.proofs.Giving.{near-less}
use Rattle.cow_tasks.proofs.Joining.{ok-told}

-- each result is one that its task gives
abbrev pub AllEnd : (Literal → Bool) → List SeenTask → List SeenOut → Type 0
AllEnd p [] [] = ⊤
AllEnd p [] (o ∷ outs) = ⊥
AllEnd p (t ∷ tasks) [] = ⊥
AllEnd p (t ∷ tasks) (o ∷ outs) = Ends p t o × AllEnd p tasks outs

pub all-end : (p : Literal → Bool) (ts : List SeenTask) (os : List SeenOut) → InOrder (Ends p) ts os → AllEnd p ts os
all-end p [] [] o = _
all-end p [] (x ∷ xs) o = let l = o.len in absurd (omega (arith, l))
all-end p (t ∷ ts) [] o = let l = o.len in absurd (omega (arith, l))
all-end p (t ∷ ts) (x ∷ xs) o = (o.each zero t x refl refl, all-end p ts xs (rest_in_order t ts x xs o))

-- how many statements tasks have together
abbrev pub steps : List SeenTask → ℕ
steps [] = 0
steps (t ∷ ts) = length t.statements + steps ts

abbrev pub statements-of : SeenTask → List Statement
statements-of t = t.statements

first : {A : Type 0} (x y : List A) (xs ys : List (List A)) → (x ∷ xs) ≡ (y ∷ ys) → x ≡ y
first x y xs ys e = ap (λ l. get_or l 0 []) e

others : {A : Type 0} (x y : List A) (xs ys : List (List A)) → (x ∷ xs) ≡ (y ∷ ys) → xs ≡ ys
others x y xs ys e = ap (λ l. drop 1 l) e

pub same-steps : (ts : List SeenTask) (bs : List TaskBlock) → map statements-of ts ≡ map statements_in bs → steps ts ≡ count_tasks bs
same-steps [] [] e = refl
same-steps [] (b ∷ bs) e = let l = ap length e in absurd (omega (arith, l))
same-steps (t ∷ ts) [] e = let l = ap length e in absurd (omega (arith, l))
same-steps (t ∷ ts) (b ∷ bs) e = omega (arith, ap length (first _ _ _ _ e), same-steps ts bs (others _ _ _ _ e))

-- the tasks of the definitions at their ends
pub tasks-run : (share : ℕ) (ts : List SeenTask) (bs : List TaskBlock) → map statements-of ts ≡ map statements_in bs → All (IsStart share) ts → tasks_run [] (map (λ t. (env_of t.env).names) ts) bs ≡ map end_of ts
tasks-run share [] [] e start = refl
tasks-run share [] (b ∷ bs) e start = let l = ap length e in absurd (omega (arith, l))
tasks-run share (t ∷ ts) [] e start = let l = ap length e in absurd (omega (arith, l))
tasks-run share (t ∷ ts) (b ∷ bs) e start =
    let begun = All-head (IsStart share) t ts start in
    ap (λ (n : Environment). task_run [] (record { env = n; text = []; gives = [] }) (statements_in b) ∷ tasks_run [] (map (λ (x : SeenTask). (env_of x.env).names) ts) bs) (sym begun.env)
    ∙ (ap (λ ss. task_run [] (record { env = env_of t.env; text = []; gives = [] }) ss ∷ tasks_run [] (map (λ (x : SeenTask). (env_of x.env).names) ts) bs) (sym (first _ _ _ _ e))
    ∙ ap (λ l. end_of t ∷ l) (tasks-run share ts bs (others _ _ _ _ e) (All-tail (IsStart share) t ts start)))

-- tasks whose blocks are bare
pub bare-tasks : (p : Literal → Bool) (ts : List SeenTask) (bs : List TaskBlock) → map statements-of ts ≡ map statements_in bs → All (IsBareTask p) bs → All (λ t. All (λ s. IsBareStep p (out-Statement s)) t.statements) ts
bare-tasks p [] bs e all = All-nil _
bare-tasks p (t ∷ ts) [] e all = let l = ap length e in absurd (omega (arith, l))
bare-tasks p (t ∷ ts) (b ∷ bs) e all =
    All-cons (λ (x : SeenTask). All (λ s. IsBareStep p (out-Statement s)) x.statements) t ts
    (subst (λ ss. All (λ s. IsBareStep p (out-Statement s)) ss) (sym (first _ _ _ _ e)) (All-head (IsBareTask p) b bs all))
    (bare-tasks p ts bs (others _ _ _ _ e) (All-tail (IsBareTask p) b bs all))

module _ (p : Literal → Bool) (share : ℕ) where
  -- nothing is allowed at a start
  none-allowed : (t : SeenTask) → IsStart share t → t.env.allowed ≡ 0
  none-allowed t start = ap (λ e. e.allowed) start.env

  -- what tasks were allowed
  pub allowed-most : (ts : List SeenTask) (os : List SeenOut) → AllEnd p ts os → All (IsStart share) ts → sum_by (λ o. o.allowed) os ≤ steps ts * most_units
  allowed-most [] [] ends start = omega arith
  allowed-most [] (o ∷ os) ends start = absurd ends
  allowed-most (t ∷ ts) [] ends start = absurd ends
  allowed-most (t ∷ ts) (o ∷ os) ends start =
      let one = ends.0.rises in
      omega (arith, one, none-allowed t (All-head (IsStart share) t ts start), allowed-most ts os ends.1 (All-tail (IsStart share) t ts start), sum_by-cons (λ (x : SeenOut). x.allowed) o os)

  -- they copied no more
  pub copied-most : (ts : List SeenTask) (os : List SeenOut) → AllEnd p ts os → All (IsStart share) ts → sum_by (λ o. o.h.copied) os ≤ sum_by (λ o. o.allowed) os
  copied-most [] [] ends start = omega arith
  copied-most [] (o ∷ os) ends start = absurd ends
  copied-most (t ∷ ts) [] ends start = absurd ends
  copied-most (t ∷ ts) (o ∷ os) ends start =
      let begun = All-head (IsStart share) t ts start in
      let one = ends.0.copied.copied in
      let zero-copied = ap (λ x. x.copied) begun.h in
      omega (arith, one, zero-copied, none-allowed t begun, copied-most ts os ends.1 (All-tail (IsStart share) t ts start), sum_by-cons (λ (x : SeenOut). x.allowed) o os, sum_by-cons (λ (x : SeenOut). x.h.copied) o os)

  share-more : (n : ℕ) → share * suc n ≡ share * n + share
  share-more n = omega arith

  -- and they give back their units, but for those that statements use
  pub spare-least : (ts : List SeenTask) (os : List SeenOut) → AllEnd p ts os → All (IsStart share) ts → share * length ts ≤ sum_by (λ o. o.h.spare) os + steps ts * most_units
  spare-least [] [] ends start = omega arith
  spare-least [] (o ∷ os) ends start = absurd ends
  spare-least (t ∷ ts) [] ends start = absurd ends
  spare-least (t ∷ ts) (o ∷ os) ends start =
      let begun = All-head (IsStart share) t ts start in
      let one = ends.0.falls in
      let units-of = ap (λ x. x.spare) begun.h in
      omega (arith, one, units-of, share-more (length ts), spare-least ts os ends.1 (All-tail (IsStart share) t ts start), sum_by-cons (λ (x : SeenOut). x.h.spare) o os)

  -- what they were allowed is what the definitions allow them at most
  pub allowed-ends : (ts : List SeenTask) (os : List SeenOut) → AllEnd p ts os → sum_by (λ o. o.allowed) os ≤ sum_by (λ t. t.env.allowed) (map end_of ts)
  allowed-ends [] [] ends = omega arith
  allowed-ends [] (o ∷ os) ends = absurd ends
  allowed-ends (t ∷ ts) [] ends = absurd ends
  allowed-ends (t ∷ ts) (o ∷ os) ends =
      let one = ends.0.most in
      omega (arith, one, allowed-ends ts os ends.1, sum_by-cons (λ (x : SeenOut). x.allowed) o os, sum_by-cons (λ (x : Task). x.env.allowed) (end_of t) (map end_of ts))

  -- their texts are those of the definitions, up to want of memory
  pub tell-ends : (ts : List SeenTask) (os : List SeenOut) → AllEnd p ts os → AllTell os (map (λ t. (end_of t).text) ts)
  tell-ends [] [] ends = _
  tell-ends [] (o ∷ os) ends = absurd ends
  tell-ends (t ∷ ts) [] ends = absurd ends
  tell-ends (t ∷ ts) (o ∷ os) ends = (record { text = ends.0.text; kept = ends.0.kept }, tell-ends ts os ends.1)

  -- ---- where no task ran out of memory

  ok-first : (o : SeenOut) (os : List SeenOut) → All (λ x. IsOk x.outcome) (o ∷ os) → IsOk o.outcome
  ok-first o os ok = All-head (λ (x : SeenOut). IsOk x.outcome) o os ok

  ok-rest : (o : SeenOut) (os : List SeenOut) → All (λ x. IsOk x.outcome) (o ∷ os) → All (λ x. IsOk x.outcome) os
  ok-rest o os ok = All-tail (λ (x : SeenOut). IsOk x.outcome) o os ok

  pub allowed-same : (ts : List SeenTask) (os : List SeenOut) → AllEnd p ts os → All (λ o. IsOk o.outcome) os → sum_by (λ o. o.allowed) os ≡ sum_by (λ t. t.env.allowed) (map end_of ts)
  allowed-same [] [] ends ok = refl
  allowed-same [] (o ∷ os) ends ok = absurd ends
  allowed-same (t ∷ ts) [] ends ok = absurd ends
  allowed-same (t ∷ ts) (o ∷ os) ends ok =
      let one = ok-told o.outcome (o.allowed ≡ (end_of t).env.allowed) (ok-first o os ok) ends.0.allowed in
      omega (arith, one, allowed-same ts os ends.1 (ok-rest o os ok), sum_by-cons (λ (x : SeenOut). x.allowed) o os, sum_by-cons (λ (x : Task). x.env.allowed) (end_of t) (map end_of ts))

  pub gives-same : (ts : List SeenTask) (os : List SeenOut) → AllEnd p ts os → All (λ o. IsOk o.outcome) os → map entry_of (flat_map (λ o. o.gives) os) ≡ given_by (map end_of ts)
  gives-same [] [] ends ok = refl
  gives-same [] (o ∷ os) ends ok = absurd ends
  gives-same (t ∷ ts) [] ends ok = absurd ends
  gives-same (t ∷ ts) (o ∷ os) ends ok =
      let one = ok-told o.outcome (map entry_of o.gives ≡ (end_of t).gives) (ok-first o os ok) ends.0.gives in
      map-append entry_of o.gives (flat_map (λ (x : SeenOut). x.gives) os)
      ∙ (ap (λ l. l ++ map entry_of (flat_map (λ (x : SeenOut). x.gives) os)) one ∙ ap (λ l. (end_of t).gives ++ l) (gives-same ts os ends.1 (ok-rest o os ok)))

  pub gives-near : (m most : ℕ) (ts : List SeenTask) (os : List SeenOut) → AllEnd p ts os → All (λ o. IsOk o.outcome) os → m + steps ts ≤ most → most ≤ 2 ^ 30 → All (λ t. AreNear most t.env.names) ts → AreNear m (flat_map (λ o. o.gives) os)
  gives-near m most [] [] ends ok less few near = All-nil _
  gives-near m most [] (o ∷ os) ends ok less few near = absurd ends
  gives-near m most (t ∷ ts) [] ends ok less few near = absurd ends
  gives-near m most (t ∷ ts) (o ∷ os) ends ok less few near =
      let here = near-less (m + length t.statements) most t.env.names (omega (arith, less)) (All-head (λ (x : SeenTask). AreNear most x.env.names) t ts near) in
      let one = ok-told o.outcome (AreNear m o.gives) (ok-first o os ok) (ends.0.near m (omega (arith, less, few)) here) in
      All-append (λ (e : SeenEntry). stop e.seen.value + m ≤ 2 ^ 31) o.gives (flat_map (λ (x : SeenOut). x.gives) os) one
      (gives-near m most ts os ends.1 (ok-rest o os ok) (omega (arith, less)) few (All-tail (λ (x : SeenTask). AreNear most x.env.names) t ts near))

  -- bare tasks give bare values, and their units come back
  pub record GivesBare (ts : List SeenTask) (os : List SeenOut) : Type 0 where
    pub bare : IsBare p (flat_map (λ o. o.gives) os)
    pub sum : sum_by (λ o. o.h.spare) os + length (flat_map (λ o. o.gives) os) ≡ sum_by (λ t. share + length t.env.names) ts

  pub gives-bare : (ts : List SeenTask) (os : List SeenOut) → AllEnd p ts os → All (λ o. IsOk o.outcome) os → All (IsStart share) ts → All (λ t. IsBare p t.env.names) ts → All (λ t. All (λ s. IsBareStep p (out-Statement s)) t.statements) ts → GivesBare ts os
  gives-bare [] [] ends ok start names all = record { bare = All-nil _; sum = refl }
  gives-bare [] (o ∷ os) ends ok start names all = absurd ends
  gives-bare (t ∷ ts) [] ends ok start names all = absurd ends
  gives-bare (t ∷ ts) (o ∷ os) ends ok start names all =
      let begun = All-head (IsStart share) t ts start in
      let units-of = ap (λ x. x.spare) begun.h in
      let done = ends.0.bare (All-head (λ (x : SeenTask). IsBare p x.env.names) t ts names) (All-head (λ (x : SeenTask). All (λ s. IsBareStep p (out-Statement s)) x.statements) t ts all) in
      let one = ok-told o.outcome (IsBare p o.gives × (o.h.spare + length o.gives ≡ t.h.spare + length t.env.names)) (ok-first o os ok) done in
      let rest = gives-bare ts os ends.1 (ok-rest o os ok) (All-tail (IsStart share) t ts start) (All-tail (λ (x : SeenTask). IsBare p x.env.names) t ts names) (All-tail (λ (x : SeenTask). All (λ s. IsBareStep p (out-Statement s)) x.statements) t ts all) in
      let here = one.1 in
      let there = rest.sum in
      record {
        bare = All-append (λ (e : SeenEntry). units p e.seen ≡ 0) o.gives (flat_map (λ (x : SeenOut). x.gives) os) one.0 rest.bare;
        sum = omega (arith, here, there, units-of, length-append o.gives (flat_map (λ (x : SeenOut). x.gives) os), sum_by-cons (λ (x : SeenOut). x.h.spare) o os, sum_by-cons (λ (x : SeenTask). share + length x.env.names) t ts);
      }
