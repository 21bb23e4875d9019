-- A fork of the definitions, put together from what its parts did.
use Rattle.std.proofs.Common.{◌≡◌, ℕ, ◌+◌, ◌*◌, ◌/◌, ◌≤◌, ◌<◌, ◌^◌, ◌++◌, Bool, true, false, List, [], ◌∷◌, length, map, Result, Ok, Err, ap, sym, ◌∙◌, arith, subst, refl, sum_by, append_assoc, if◌then◌else◌}
use Rattle.std.specs.Prelude.{⊤, All, IsOk, OnOk, OnErr, flat_map}
use Rattle.std.proofs.Math.Nat.{div-mul-le_self, le-div_iff_mul-le, mul-le-mul_left}
use Rattle.std.proofs.lemmas.List.{append-nil, append_cancel_left, length-map}
use Rattle.std.proofs.lemmas.List.Sums.{sum_by-cons}
use Rattle.cow_crew.specs.Order.{InOrder}
use Rattle.cow_model.specs.Atoms.{IsBareTask}
use Rattle.cow_model.specs.Env as env
use Rattle.cow_model.specs.Env.{allow, renamed}
use Rattle.cow_model.specs.Fork.{forked, tasks_run, joined, joined_all, assigned, assigned_all, given_by, ended, fork_in}
use Rattle.cow_model.specs.Fronts.{IsFrontOf, GrowsWithin}
use Rattle.cow_model.specs.Lexis.{Text}
use Rattle.cow_model.specs.Purse.{Purse, RisesWithin}
use Rattle.cow_model.specs.declared.fork.Forked.{Forked}
use Rattle.cow_model.specs.declared.fork.Task.{Task}
use Rattle.cow_model.specs.declared.memory.NoMemory.{NoMemory}
use Rattle.cow_model.specs.declared.outcome.Entry.{Entry}
use Rattle.cow_model.specs.declared.outcome.Environment.{Environment}
use Rattle.cow_model.specs.declared.outcome.Outcome.{Outcome}
use Rattle.cow_model.specs.declared.plain.Literal.{Literal}
use Rattle.cow_model.specs.declared.statement.TaskBlock.{TaskBlock}
use Rattle.cow_model.proofs.ForkAllows.{fork_allows}
use Rattle.cow_eval.specs.Entries.{SeenEntry, entry_of, most_units}
use Rattle.cow_eval.specs.Envs.{SeenEnv, AreNear, CanRun, IsBare, env_of}
use Rattle.cow_eval.proofs.Costs.{always-err}
use Rattle.cow_eval.proofs.Results.{on-ok}
use Rattle.cow_tasks.specs.Blocks.{Performs, count_tasks, count_captures, statements_in}
use Rattle.cow_tasks.specs.Captures.{Free, Makes, forked_at}
use Rattle.cow_tasks.specs.Joins.{Assigns, Joins, StopsIn, TakesIn, outcome_at}
use Rattle.cow_tasks.specs.Tasks.{SeenTask, SeenOut, Ends, end_of}
use Rattle.cow_tasks.proofs.CaptureLists.{fork-behind, forks-behind}
use Rattle.cow_tasks.proofs.Ending.{AllEnd, all-end, steps, same-steps, tasks-run, bare-tasks, allowed-most, copied-most, spare-least, allowed-ends, tell-ends, allowed-same, gives-same, gives-near, gives-bare, statements-of}
use Rattle.cow_tasks.proofs.Giving.{near-less}
use Rattle.cow_tasks.proofs.Growth.{front-on, front-of}
use Rattle.cow_tasks.proofs.Joining.{assigned-grows, grows-whole, grows-within, grows-behind, whole-texts}

-- ---- the share of a task

mul-less : (x k : ℕ) → k ≤ 16 → x * (k + 1) ≤ x * 17
mul-less x k few = mul-le-mul_left x (omega (arith, few))

-- each of at most 16 tasks, and their parent, has a share with these units
pub share-enough : (x spare k : ℕ) → 17 * x ≤ spare → k ≤ 16 → x ≤ spare / (k + 1)
share-enough x spare k all few = (le-div_iff_mul-le {k = k + 1} {x = x} {y = spare} (omega arith)).1 (omega (arith, mul-less x k few, all))

-- the shares of the tasks and of their parent are there
pub shares-fit : (spare k : ℕ) → (spare / (k + 1)) * k + spare / (k + 1) ≤ spare
shares-fit spare k =
    let fit = div-mul-le_self spare (k + 1) in
    let apart : (spare / (k + 1)) * (k + 1) ≡ (spare / (k + 1)) * k + spare / (k + 1) = omega arith in
    omega (arith, fit, apart)

-- the same of what a holder told
pub shares-of : (told spare k : ℕ) → told ≡ spare → (told / (k + 1)) * k + told / (k + 1) ≤ spare
shares-of told spare k is = let fit = shares-fit told k in omega (arith, fit, is)

-- ---- what the definitions print and allow

-- the fork whose captures begin
abbrev pub begins : List Entry → Forked
begins parent = record { parent = parent; text = []; tasks = [] }

-- the outcome whose captures are made
abbrev pub after-captures : Environment → Forked → Outcome
after-captures e f = record { env = renamed f.parent e; text = f.text }

-- the parent has taken the texts of tasks, and what they were allowed
pub joined-is : (ends : List Task) (out : Outcome) → joined_all out ends ≡ record { env = allow (sum_by (λ t. t.env.allowed) ends) out.env; text = out.text ++ flat_map (λ t. t.text) ends }
joined-is [] out =
    ap {B = Outcome} (λ t. record { env = out.env; text = t }) (sym (append-nil out.text))
    ∙ ap {B = Outcome} (λ a. record { env = record out.env { allowed = a }; text = out.text ++ [] }) (omega arith)
joined-is (t ∷ ts) out =
    let sum : (out.env.allowed + t.env.allowed) + sum_by (λ (x : Task). x.env.allowed) ts ≡ out.env.allowed + sum_by (λ (x : Task). x.env.allowed) (t ∷ ts) = omega (arith, sum_by-cons (λ (x : Task). x.env.allowed) t ts) in
    joined-is ts (joined out t)
    ∙ (ap {B = Outcome} (λ a. record { env = record out.env { allowed = a }; text = (out.text ++ t.text) ++ flat_map (λ (x : Task). x.text) ts }) sum
    ∙ ap {B = Outcome} (λ x. record { env = allow (sum_by (λ (y : Task). y.env.allowed) (t ∷ ts)) out.env; text = x }) (append_assoc out.text t.text (flat_map (λ (x : Task). x.text) ts)))

joined-grows : (ends : List Task) (out : Outcome) → IsFrontOf out.text (joined_all out ends).text
joined-grows [] out = ([], append-nil out.text)
joined-grows (t ∷ ts) out = front-on out.text (joined out t).text (joined_all (joined out t) ts).text (front-of out.text t.text) (joined-grows ts (joined out t))

-- what a fork prints begins with the lines of its captures
pub fork-grows : (e : Environment) (blocks : List TaskBlock) → IsFrontOf (forked (begins e.names) blocks).text (fork_in e [] blocks).text
fork-grows e blocks =
    let f = forked (begins e.names) blocks in
    let out = after-captures e f in
    let ends = tasks_run [] f.tasks blocks in
    front-on f.text (joined_all out ends).text (fork_in e [] blocks).text (joined-grows ends out) (assigned-grows (joined_all out ends) (given_by ends))

either-allowed : (out : Outcome) (b : Bool) (e : Environment) (t : Text) → e.allowed ≡ out.env.allowed → (if b then record out { env = e } else record out { text = t }).env.allowed ≡ out.env.allowed
either-allowed out b e t same = elim b as (λ v. (if v then record out { env = e } else record out { text = t }).env.allowed ≡ out.env.allowed) [ true ↦ same | false ↦ refl ]

assigned-allowed : (es : List Entry) (out : Outcome) → (assigned_all out es).env.allowed ≡ out.env.allowed
assigned-allowed [] out = refl
assigned-allowed (e ∷ es) out = assigned-allowed es (assigned out e) ∙ either-allowed out (env.has_place e.name out.env.names) _ _ refl

-- a text before what an outcome prints
abbrev pub behind : Text → Outcome → Outcome
behind said out = record out { text = said ++ out.text }

assign-behind : (said : Text) (b : Bool) (out : Outcome) (e : Environment) (more : Text) → (if b then record (behind said out) { env = e } else record (behind said out) { text = (said ++ out.text) ++ more }) ≡ behind said (if b then record out { env = e } else record out { text = out.text ++ more })
assign-behind said true out e more = refl
assign-behind said false out e more = ap {B = Outcome} (λ t. record out { text = t }) (append_assoc said out.text more)

assigned-behind : (said : Text) (es : List Entry) (out : Outcome) → assigned_all (behind said out) es ≡ behind said (assigned_all out es)
assigned-behind said [] out = refl
assigned-behind said (e ∷ es) out = ap (λ o. assigned_all o es) (assign-behind said (env.has_place e.name out.env.names) out _ _) ∙ assigned-behind said es (assigned out e)

-- a text that begins as it did, and is a front of what there is to print, grew by a front
within-of : (a b whole : Text) → IsFrontOf a b → IsFrontOf b (a ++ whole) → GrowsWithin a b whole
within-of a b whole (x, p) (r, q) = record { added = x; front = (r, append_cancel_left a (x ++ r) whole (sym (append_assoc a x r) ∙ (ap (λ t. t ++ r) p ∙ q))); grown = sym p }

-- ---- the parts together

-- want of memory isn't Ok
not-ok : {x : NoMemory} → IsOk {T = ⊤} (Err x) → ⊥
not-ok ok = cc

-- there are as many tasks as blocks
lengths-same : (ts : List SeenTask) (bs : List TaskBlock) → map statements-of ts ≡ map statements_in bs → length ts ≡ length bs
lengths-same ts bs e = sym (length-map ts statements-of) ∙ (ap length e ∙ length-map bs statements_in)

flat-ends : (ts : List SeenTask) → flat_map (λ (w : Text). w) (map (λ (t : SeenTask). (end_of t).text) ts) ≡ flat_map (λ (t : Task). t.text) (map end_of ts)
flat-ends [] = refl
flat-ends (t ∷ ts) = ap (λ x. (end_of t).text ++ x) (flat-ends ts)

-- where captures ran out of memory
module _ (blocks : List TaskBlock) (before after : SeenEnv) (said said' : Text) (h h' : Purse) (free : Free before after said said' h h') where
  captured-behind : (forked (forked_at before [] said) blocks).text ≡ said ++ (forked (begins (env_of before).names) blocks).text
  captured-behind =
      ap (λ t. (forked (record { parent = (env_of before).names; text = t; tasks = [] }) blocks).text) (sym (append-nil said))
      ∙ ap (λ (f : Forked). f.text) (forks-behind said (begins (env_of before).names) blocks)

  pub grows-in-captures : IsFrontOf said' (forked (forked_at before [] said) blocks).text → GrowsWithin said said' (fork_in (env_of before) [] blocks).text
  grows-in-captures kept =
      let f = forked (begins (env_of before).names) blocks in
      grows-within said said' f.text (fork_in (env_of before) [] blocks).text (fork-grows (env_of before) blocks) (within-of said said' f.text free.grows (subst (IsFrontOf said') captured-behind kept))

  -- nothing was copied, and nothing allowed
  pub stops-free : (p : Literal → Bool) (x : NoMemory) → GrowsWithin said said' (fork_in (env_of before) [] blocks).text →
      Performs p (All (IsBareTask p) blocks) true (1 + count_tasks blocks) (fork_in (env_of before) [] blocks) (GrowsWithin said said' (fork_in (env_of before) [] blocks).text) before after said said' h h' (Err x)
  stops-free p x grows =
      let allowed = free.rest.allowed in
      let copied = free.copied in
      record {
        env = _;
        text = _;
        kept = grows;
        most = omega (arith, allowed, fork_allows (env_of before) [] blocks);
        copied = record { copied = omega (arith, allowed, copied); kept = omega (arith, copied) };
        falls = λ ok. absurd (not-ok (ok refl));
        bare = λ names none. _;
      }

module _ (p : Literal → Bool) (blocks : List TaskBlock) (share : ℕ) (before env1 : SeenEnv) (said said1 : Text) (h h1 : Purse) (tasks : List SeenTask)
    (makes : Makes p share blocks before env1 said said1 h h1 tasks) (free : Free before env1 said said1 h h1) where
  -- the fork of the definitions with its captures
  abbrev captures : Forked
  captures = forked (begins (env_of before).names) blocks

  abbrev ends : List Task
  ends = map end_of tasks

  -- the outcome of the fork
  abbrev whole : Outcome
  whole = fork_in (env_of before) [] blocks

  abbrev whole-joined : Outcome
  whole-joined = joined_all (after-captures (env_of before) captures) ends

  made : forked_at env1 tasks said1 ≡ fork-behind said captures
  made = makes.done ∙ (ap (λ t. forked (record { parent = (env_of before).names; text = t; tasks = [] }) blocks) (sym (append-nil said)) ∙ forks-behind said (begins (env_of before).names) blocks)

  names-are : (env_of env1).names ≡ captures.parent
  names-are = ap (λ (f : Forked). f.parent) made

  said-is : said1 ≡ said ++ captures.text
  said-is = ap (λ (f : Forked). f.text) made

  whole-is : whole ≡ assigned_all whole-joined (given_by ends)
  whole-is = ap (λ ts. ended (after-captures (env_of before) captures) ts) (ap (λ ns. tasks_run [] ns blocks) (sym (ap (λ (f : Forked). f.tasks) made)) ∙ tasks-run share tasks blocks makes.statements makes.start)

  whole-allowed : whole.env.allowed ≡ before.allowed + sum_by (λ (t : Task). t.env.allowed) ends
  whole-allowed = ap (λ (o : Outcome). o.env.allowed) whole-is ∙ (assigned-allowed (given_by ends) whole-joined ∙ ap (λ (o : Outcome). o.env.allowed) (joined-is ends (after-captures (env_of before) captures)))

  joined-text : whole-joined.text ≡ captures.text ++ flat_map (λ (t : Task). t.text) ends
  joined-text = ap (λ (o : Outcome). o.text) (joined-is ends (after-captures (env_of before) captures))

  joined-front : IsFrontOf whole-joined.text whole.text
  joined-front = subst (λ (o : Outcome). IsFrontOf whole-joined.text o.text) (sym whole-is) (assigned-grows whole-joined (given_by ends))

  -- where no thread or table could be had
  pub stops-before : (x : NoMemory) → Performs p (All (IsBareTask p) blocks) true (1 + count_tasks blocks) whole (GrowsWithin said said1 whole.text) before env1 said said1 h h1 (Err x)
  stops-before x = stops-free blocks before env1 said said1 h h1 free p x (grows-within said said1 captures.text whole.text (fork-grows (env_of before) blocks) (grows-whole said said1 captures.text said-is))

  module _ (outs : List SeenOut) (order : InOrder (Ends p) tasks outs) where
    ran : AllEnd p tasks outs
    ran = all-end p tasks outs order

    counted-steps : steps tasks ≡ count_tasks blocks
    counted-steps = same-steps tasks blocks makes.statements

    -- what the tasks were allowed stays a number of 64 bits
    pub allowed-fits : CanRun (1 + count_tasks blocks) before h → env1.allowed + sum_by (λ (o : SeenOut). o.allowed) outs < 2 ^ 64
    allowed-fits can =
        let most = can.allowed in
        let same = free.rest.allowed in
        omega (arith, most, same, counted-steps, allowed-most p share tasks outs ran makes.start)

    module _ (env2 : SeenEnv) (said2 : Text) (h2 : Purse) (joins : Joins outs env1 env2 h1 h2) where
      allowed-now : env2.allowed ≡ before.allowed + sum_by (λ (o : SeenOut). o.allowed) outs
      allowed-now = let a = joins.allowed in let b = free.rest.allowed in omega (arith, a, b)

      copied-now : RisesWithin before.allowed env2.allowed h h2
      copied-now =
          let c = joins.copied in
          let k = joins.kept in
          let f = free.copied in
          record { copied = omega (arith, c, f, allowed-now, copied-most p share tasks outs ran makes.start); kept = omega (arith, k, f) }

      most-now : env2.allowed ≤ whole.env.allowed
      most-now = omega (arith, allowed-now, whole-allowed, allowed-ends p share tasks outs ran)

      -- a task ran out of memory
      pub stops-joining : (x : NoMemory) → StopsIn outs said1 said2 → Performs p (All (IsBareTask p) blocks) true (1 + count_tasks blocks) whole (GrowsWithin said said2 whole.text) before env2 said said2 h h2 (Err x)
      stops-joining x stops =
          let grew = stops (map (λ (t : SeenTask). (end_of t).text) tasks) (tell-ends p share tasks outs ran) in
          let behind-captures = grows-behind said said1 said2 captures.text (flat_map (λ (w : Text). w) (map (λ (t : SeenTask). (end_of t).text) tasks)) said-is grew in
          let joined-grew = subst (GrowsWithin said said2) (ap (λ t. captures.text ++ t) (flat-ends tasks) ∙ sym joined-text) behind-captures in
          record {
            env = _;
            text = _;
            kept = grows-within said said2 whole-joined.text whole.text joined-front joined-grew;
            most = most-now;
            copied = copied-now;
            falls = λ ok. absurd (not-ok (ok refl));
            bare = λ names none. _;
          }

      module _ (gives : List SeenEntry) (takes : TakesIn outs said1 said2 gives) (env3 : SeenEnv) (said3 : Text) (h3 : Purse) (r : Result ⊤ NoMemory)
          (assigns : Assigns p gives (assigned_all (outcome_at env2 said2) (map entry_of gives)) env2 env3 said2 said3 h2 h3 r) where
        gives-are : map entry_of gives ≡ given_by ends
        gives-are = ap (map entry_of) takes.given ∙ gives-same p share tasks outs ran takes.ok

        -- the parent has come to the outcome of the definitions
        joined-at : outcome_at env2 said2 ≡ behind said whole-joined
        joined-at =
            let texts = whole-texts outs (map (λ (t : SeenTask). (end_of t).text) tasks) takes.ok (tell-ends p share tasks outs ran) ∙ flat-ends tasks in
            let said-all : said2 ≡ said ++ whole-joined.text =
            takes.text ∙ (ap (λ t. t ++ flat_map (λ (o : SeenOut). o.text) outs) said-is ∙ (append_assoc said captures.text (flat_map (λ (o : SeenOut). o.text) outs) ∙ (ap (λ t. said ++ (captures.text ++ t)) texts ∙ ap (λ t. said ++ t) (sym joined-text)))) in
            let env-all : env_of env2 ≡ allow (sum_by (λ (t : Task). t.env.allowed) ends) (renamed captures.parent (env_of before)) =
            ap {B = Environment} (λ n. record { names = n; room = env2.room; allowed = env2.allowed }) (ap (map entry_of) joins.names ∙ names-are)
            ∙ (ap {B = Environment} (λ a. record { names = captures.parent; room = a; allowed = env2.allowed }) (joins.room ∙ free.rest.room)
            ∙ ap {B = Environment} (λ a. record { names = captures.parent; room = before.room; allowed = a }) (allowed-now ∙ ap (λ n. before.allowed + n) (allowed-same p share tasks outs ran takes.ok))) in
            ap {B = Outcome} (λ e. record { env = e; text = said2 }) (env-all ∙ sym (ap (λ (o : Outcome). o.env) (joined-is ends (after-captures (env_of before) captures))))
            ∙ ap {B = Outcome} (λ t. record { env = whole-joined.env; text = t }) said-all

        assigned-at : assigned_all (outcome_at env2 said2) (map entry_of gives) ≡ behind said whole
        assigned-at =
            ap (λ es. assigned_all (outcome_at env2 said2) es) gives-are
            ∙ (ap (λ o. assigned_all o (given_by ends)) joined-at ∙ (assigned-behind said (given_by ends) whole-joined ∙ ap (behind said) (sym whole-is)))

        same-length : length tasks ≡ length blocks
        same-length = lengths-same tasks blocks makes.statements

        falls-now : share * length blocks + share ≤ h.spare → count_captures blocks ≤ 2 ^ 21 → h.spare ≤ h3.spare + (1 + count_tasks blocks) * most_units
        falls-now fits few =
            let a = makes.falls in
            let b = joins.spare in
            let c = assigns.falls in
            let lengths : length tasks ≡ length blocks = same-length in
            omega (arith, a, b, c, few, counted-steps, spare-least p share tasks outs ran makes.start, ap (λ n. share * n) lengths)

        kept-now : (r : Result ⊤ NoMemory) → OnErr r (IsFrontOf said3 (assigned_all (outcome_at env2 said2) (map entry_of gives)).text) → OnErr r (GrowsWithin said said3 whole.text)
        kept-now (Ok x) k = _
        kept-now (Err x) k =
            let said-all : said2 ≡ said ++ whole-joined.text = ap (λ (o : Outcome). o.text) joined-at in
            let grown : IsFrontOf said said3 = front-on said said2 said3 (whole-joined.text, sym said-all) assigns.grows in
            within-of said said3 whole.text grown (subst (λ (o : Outcome). IsFrontOf said3 o.text) assigned-at k)

        pub forked-done : share * length blocks + share ≤ h.spare → count_captures blocks ≤ 2 ^ 21 →
            Performs p (All (IsBareTask p) blocks) true (1 + count_tasks blocks) whole (GrowsWithin said said3 whole.text) before env3 said said3 h h3 r
        forked-done fits few =
            let allowed = assigns.allowed in
            let copied = assigns.copied in
            let now = copied-now in
            let rose = now.copied in
            let kept = now.kept in
            record {
              env = on-ok _ _ r assigns.done (λ d. ap (λ (o : Outcome). o.env) (d ∙ assigned-at));
              text = on-ok _ _ r assigns.done (λ d. ap (λ (o : Outcome). o.text) (d ∙ assigned-at));
              kept = kept-now r assigns.kept;
              most = always-err _ r (omega (arith, allowed, most-now));
              copied = record { copied = omega (arith, rose, allowed, copied); kept = omega (arith, kept, copied) };
              falls = λ ok. falls-now fits few;
              bare = λ names all.
                  let made-bare = makes.bare names in
                  let given-bare = gives-bare p share tasks outs ran takes.ok makes.start made-bare.1 (bare-tasks p tasks blocks makes.statements all) in
                  let done = assigns.bare (subst (IsBare p) (sym joins.names) made-bare.0) (subst (IsBare p) (sym takes.given) given-bare.bare) in
                  on-ok _ _ r done (λ b.
                  let one = made-bare.2 in
                  let two = joins.spare in
                  let three = given-bare.sum in
                  let four = b.sum in
                  record { bare = b.bare; sum = omega (arith, one, two, three, four, ap length takes.given, ap length joins.names) });
            }

        pub forked-next : share * length blocks + share ≤ h.spare → count_captures blocks ≤ 2 ^ 21 → (m : ℕ) → CanRun (m + (1 + count_tasks blocks)) before h → OnOk r (CanRun m env3 h3)
        forked-next fits few m can =
            let most = m + (1 + count_tasks blocks) in
            let near = makes.near most can.near in
            let names = subst (AreNear m) (sym joins.names) (near-less m most env1.names (omega arith) near.0) in
            let given = subst (AreNear m) (sym takes.given) (gives-near p share m most tasks outs ran takes.ok (omega (arith, counted-steps)) can.few near.1) in
            let fewer = can.few in
            let bound = can.allowed in
            let spare = can.spare in
            let allowed = assigns.allowed in
            on-ok _ _ r (assigns.near m names given) (λ close. record {
              few = omega (arith, fewer);
              allowed = omega (arith, bound, allowed, allowed-now, counted-steps, allowed-most p share tasks outs ran makes.start);
              near = close;
              spare = let fell = falls-now fits few in omega (arith, spare, fell);
            })
