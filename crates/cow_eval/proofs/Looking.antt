-- What a lazy statement does, as the definitions say it of the environment and of the rules.
use Rattle.std.specs.Prelude.{nat_lt, slice_get, ◌==◌, ◌^◌, ⊤, All, Result, OnOk, OnErr}
use Rattle.std.proofs.Common.{◌≡◌, ℕ, ℤ, ◌+◌, ◌-◌, ◌*◌, ◌<◌, ◌≤◌, ◌++◌, Bool, true, false, List, [], ◌∷◌, length, map, get_or, set, Option, Some, None, Ok, Err, if◌then◌else◌, refl, ap, sym, ◌∙◌, subst, arith}
use Rattle.std.proofs.lemmas.List.{map-set, length-map}
use Rattle.std.proofs.lemmas.Option.{slice_get-get_or}
use Rattle.std.proofs.Math.ListN.{get_or-map}
use Rattle.std.proofs.Math.Seq.{map-set_same}
use Rattle.cow_model.proofs.Counts.{size-count}
use Rattle.cow_model.specs.Env as env
use Rattle.cow_model.specs.Env.{entry_of as entry_named}
use Rattle.cow_model.specs.Lazy.{asks, view}
use Rattle.cow_model.specs.Lexis.{Text}
use Rattle.cow_model.specs.Operation.{index}
use Rattle.cow_model.specs.Printed.{refusal, line, list_text}
use Rattle.cow_model.specs.Plain.{count, stop, size, max_count}
use Rattle.cow_model.specs.Purse.{Purse, Moves}
use Rattle.cow_model.specs.Step as step
use Rattle.cow_model.specs.Step.{lazy_in, lazy_at, looked, shape_of, through, view_in, print_in, with_found}
use Rattle.cow_model.specs.declared.outcome.Entry.{Entry}
use Rattle.cow_model.specs.declared.outcome.Environment.{Environment}
use Rattle.cow_model.specs.declared.outcome.Outcome.{Outcome}
use Rattle.cow_model.specs.declared.plain.Literal.{Literal}
use Rattle.cow_model.specs.declared.refusal.Refusal.{Refusal}
use Rattle.cow_model.specs.declared.refusal.Refusal.TheVariants.{NoName, WrongKind, NoRule, TextFull}
use Rattle.cow_model.specs.declared.shape.Shape.{Shape}
use Rattle.cow_model.specs.declared.memory.NoMemory.{NoMemory}
use Rattle.cow_model.specs.declared.statement.Statement.TheOpen.{Statement-F}
use Rattle.cow_model.specs.declared.statement.Verb.{Verb}
use Rattle.cow_model.specs.declared.statement.Verb.TheVariants as verb
use Rattle.cow_model.specs.declared.value.Plain.{Plain}
use Rattle.cow_model.specs.declared.value.Plain.TheVariants.{Array}
use Rattle.cow_rule.specs.Asked.{raised}
use Rattle.cow_views.specs.Asks.{asks_about, asks_at, asks_value, asks_entry, raised_by}
use Rattle.cow_value.specs.Calls.{IsReady}
use Rattle.cow_value.specs.Seen.{Seen, shared, units}
use Rattle.cow_views.specs.Views.{has_views, items_of, view_cost, view_line}
use Rattle.cow_eval.specs.Entries.{SeenEntry, EntryCosts, IsKept, entry_of, most_units}
use Rattle.cow_eval.specs.Envs.{SeenEnv, CanRun, Costs, Does, entry_in, env_of}
use Rattle.cow_eval.specs.Looks.{used_room}
use Rattle.cow_eval.proofs.Asking.{raised-none, raised-one}
use Rattle.cow_eval.proofs.Places.{there, settled-there}
use Rattle.cow_eval.proofs.Ready.{ready-next}
use Rattle.cow_eval.proofs.BareNames.{changed-bare}
use Rattle.cow_eval.proofs.Costs.{always-err}
use Rattle.cow_eval.proofs.Results.{always, on-err, on-ok}
use Rattle.cow_eval.proofs.Steps.{Did}

-- ---- what is printed

-- a value without views
no-views : (before : Environment) (shapes : List Shape) (name : Text) (i : ℤ) (asked : Verb) (v : Plain) → has_views v ≡ false → lazy_at before shapes name i asked v ≡ step.refused before WrongKind
no-views before shapes name i asked (Array items) is = cc
no-views before shapes name i asked v is = refl

-- a value with views
some-views : (before : Environment) (shapes : List Shape) (name : Text) (i : ℤ) (asked : Verb) (v : Plain) → has_views v ≡ true → lazy_at before shapes name i asked v ≡ through before name asked (items_of v) (shape_of shapes (index 0 (length shapes) i))
some-views before shapes name i asked (Array items) is = refl
some-views before shapes name i asked v is = cc

-- a line that doesn't use more than the room
view-fits : (before : Environment) (name : Text) (items seen : List Literal) (asked : Verb) (left : ℕ) → left + used_room asked (view_line asked seen) ≡ before.room →
    view_in before name items seen asked ≡ record { env = record (looked before name (view_cost asked items)) { room = left }; text = view_line asked seen }
view-fits before name items seen verb.First left is = let same : left ≡ before.room = omega (arith, is) in rw same refl
view-fits before name items seen verb.Show left is =
    let no : nat_lt before.room (length (line (list_text seen))) ≡ false = search (arith, is) in
    let rest : before.room - length (line (list_text seen)) ≡ left = omega (arith, is) in
    rw (no, rest) refl
view-fits before name items seen verb.Count left is = let same : left ≡ before.room = omega (arith, is) in rw same refl

-- a line that would use more
view-longer : (before : Environment) (name : Text) (items seen : List Literal) (asked : Verb) → before.room < used_room asked (view_line asked seen) →
    view_in before name items seen asked ≡ step.refused (looked before name (view_cost asked items)) TextFull
view-longer before name items seen verb.First longer = absurd (omega (arith, longer))
view-longer before name items seen verb.Show longer =
    let yes : nat_lt before.room (length (line (list_text seen))) ≡ true = search (arith, longer) in
    rw yes refl
view-longer before name items seen verb.Count longer = absurd (omega (arith, longer))

-- either way so much is allowed
print-allows : (b : Bool) (before : Environment) (text : Text) → (if b then step.refused before TextFull else record { env = record before { room = before.room - length text }; text = text }).env.allowed ≡ before.allowed
print-allows true before text = refl
print-allows false before text = refl

view-allows : (before : Environment) (name : Text) (items seen : List Literal) (asked : Verb) → (view_in before name items seen asked).env.allowed ≡ before.allowed + view_cost asked items
view-allows before name items seen verb.First = refl
view-allows before name items seen verb.Show = print-allows (nat_lt before.room (length (line (list_text seen)))) (looked before name (length items)) (line (list_text seen))
view-allows before name items seen verb.Count = refl

-- a statement whose name isn't there
pub nameless : (before : SeenEnv) (name : Text) (shapes : List Shape) (i : ℤ) (asked : Verb) → env.place_of name (map entry_of before.names) ≡ None → Did (env_of before) (refusal NoName) (lazy_in (env_of before) shapes name i asked)
nameless before name shapes i asked none = rw none (record { env = refl; text = refl })

module _ (before : SeenEnv) (name : Text) (at : ℕ) (e : SeenEntry) (place : env.place_of name (map entry_of before.names) ≡ Some at) (is : e ≡ get_or before.names at e) (shapes : List Shape) (i : ℤ) (asked : Verb) where
  -- the value of the name is looked at
  found : lazy_in (env_of before) shapes name i asked ≡ lazy_at (env_of before) shapes name i asked e.seen.value
  found = ap (λ o. with_found (env_of before) o (λ x. lazy_at (env_of before) shapes name i asked x.value)) (there name before.names at e place is).read

  -- it has no views
  pub viewless : has_views e.seen.value ≡ false → Did (env_of before) (refusal WrongKind) (lazy_in (env_of before) shapes name i asked)
  viewless none =
      let whole = found ∙ no-views (env_of before) shapes name i asked e.seen.value none in
      record { env = ap (λ o. o.env) (sym whole); text = ap (λ o. o.text) (sym whole) }

  module _ (views : has_views e.seen.value ≡ true) where
    -- the number names no rule
    pub ruleless : index 0 (length shapes) i ≡ None → Did (env_of before) (refusal NoRule) (lazy_in (env_of before) shapes name i asked)
    ruleless none =
        let whole = found ∙ (some-views (env_of before) shapes name i asked e.seen.value views ∙ ap (λ o. through (env_of before) name asked (items_of e.seen.value) (shape_of shapes o)) none) in
        record { env = ap (λ o. o.env) (sym whole); text = ap (λ o. o.text) (sym whole) }

    module _ (k : ℕ) (named : index 0 (length shapes) i ≡ Some k) (shape : Shape) (rule : slice_get shapes k ≡ Some shape) where
      -- the view of the array through the rule
      viewed : lazy_in (env_of before) shapes name i asked ≡ view_in (env_of before) name (items_of e.seen.value) (view shape (items_of e.seen.value)) asked
      viewed =
          found ∙ (some-views (env_of before) shapes name i asked e.seen.value views
          ∙ (ap (λ o. through (env_of before) name asked (items_of e.seen.value) (shape_of shapes o)) named
          ∙ ap (through (env_of before) name asked (items_of e.seen.value)) rule))

      -- so much is allowed
      pub allows : (lazy_in (env_of before) shapes name i asked).env.allowed ≡ before.allowed + view_cost asked (items_of e.seen.value)
      allows = ap (λ o. o.env.allowed) viewed ∙ view-allows (env_of before) name (items_of e.seen.value) (view shape (items_of e.seen.value)) asked

      module _ (e' : SeenEntry) (same : entry_of e' ≡ env.shared (entry_of e)) where
        -- its line has room
        pub shown : (left : ℕ) → left + used_room asked (view_line asked (view shape (items_of e.seen.value))) ≡ before.room →
            Did (env_of (record { names = set before.names at e'; room = left; allowed = before.allowed + view_cost asked (items_of e.seen.value) })) (view_line asked (view shape (items_of e.seen.value))) (lazy_in (env_of before) shapes name i asked)
        shown left fits =
            let whole = viewed ∙ view-fits (env_of before) name (items_of e.seen.value) (view shape (items_of e.seen.value)) asked left fits in
            record {
              env = ap {B = Environment} (λ names. record { names = names; room = left; allowed = before.allowed + view_cost asked (items_of e.seen.value) }) (settled-there name before.names at e place is e' same) ∙ ap (λ o. o.env) (sym whole);
              text = ap (λ o. o.text) (sym whole);
            }

        -- it has none
        pub unshown : before.room < used_room asked (view_line asked (view shape (items_of e.seen.value))) →
            Did (env_of (record { names = set before.names at e'; room = before.room; allowed = before.allowed + view_cost asked (items_of e.seen.value) })) (refusal TextFull) (lazy_in (env_of before) shapes name i asked)
        unshown longer =
            let whole = viewed ∙ view-longer (env_of before) name (items_of e.seen.value) (view shape (items_of e.seen.value)) asked longer in
            record {
              env = ap {B = Environment} (λ names. record { names = names; room = before.room; allowed = before.allowed + view_cost asked (items_of e.seen.value) }) (settled-there name before.names at e place is e' same) ∙ ap (λ o. o.env) (sym whole);
              text = ap (λ o. o.text) (sym whole);
            }

-- no literals are allowed
allow-none : (before : Environment) → env.allow 0 before ≡ before
allow-none before = let none : before.allowed + 0 ≡ before.allowed = omega arith in ap (λ n. record { names = before.names; room = before.room; allowed = n }) none

-- it is a step of the definitions
pub is-step : (before : Environment) (shapes : List Shape) (line : ℕ) (name : Text) (i : ℤ) (asked : Verb) → step.step before shapes (Statement-F.Lazy line name i asked) ≡ lazy_in before shapes name i asked
is-step before shapes line name i asked = ap (λ e. lazy_in e shapes name i asked) (allow-none before)

-- after it one fewer may be run
pub look-next : (n : ℕ) (before after : SeenEnv) (h h' : Purse) (shapes : List Shape) (name : Text) (i : ℤ) (asked : Verb) → All IsKept before.names → CanRun (n + 1) before h → h.spare ≤ h'.spare + 1 * most_units
    → (r : Result ⊤ NoMemory) → OnOk r (env_of after ≡ (lazy_in (env_of before) shapes name i asked).env) → OnOk r (CanRun n after h')
look-next n before after h h' shapes name i asked kept ready falls r did =
    ready-next n before after h h' shapes (Statement-F.Lazy 0 name i asked) kept ready (omega arith) falls r (on-ok _ _ r did (λ is. is ∙ ap (λ o. o.env) (sym (is-step (env_of before) shapes 0 name i asked))))

-- what it costs: the copies are allowed
pub looks-cost : {p : Literal → Bool} {n : ℕ} {brings : Type 0} {e e' : SeenEntry} {h h' : Purse} {before after : SeenEnv} → EntryCosts p n brings e e' h h' → after.allowed ≡ before.allowed + n → Costs 0 1 before after h h'
looks-cost costs sum =
    let rises = costs.copied.copied in
    let falls = costs.falls in
    record { copied = record { copied = omega (arith, rises, sum); kept = costs.copied.kept }; falls = omega (arith, falls) }

-- an array has as many atoms as elements
items-count : (v : Plain) → has_views v ≡ true → length (items_of v) ≡ count v
items-count (Array items) is = refl
items-count v is = cc

-- so few are copied
pub view-few : (asked : Verb) (v : Plain) → has_views v ≡ true → count v ≤ max_count → view_cost asked (items_of v) ≤ max_count
view-few verb.First v is few = omega arith
view-few verb.Show v is few = omega (arith, items-count v is, few)
view-few verb.Count v is few = omega arith

-- what a value has to have that is looked at
pub look-ready : (v : Seen) (h : Purse) → count v.value ≤ max_count → stop v.value < 2 ^ 31 → 2 ^ 39 ≤ h.spare → IsReady 0 v h
look-ready v h few near units = record { small = few; near = near; spare = omega (arith, few, units, size-count v.value) }

-- what the entry costs, by what its value does
pub look-costs : (p : Literal → Bool) (n : ℕ) (e e' : SeenEntry) (h h' : Purse) → e'.seen ≡ shared e.seen → Moves (units p e.seen) n h h' → h.spare ≤ h'.spare → EntryCosts p n ⊤ e e' h h'
look-costs p n e e' h h' same moves less =
    let copied = moves.copied in
    let rises = moves.rises in
    record {
      copied = record { copied = omega (arith, copied); kept = moves.kept };
      falls = omega (arith, less);
      bare = λ brings bare. (ap (units p) same ∙ bare, omega (arith, rises, less, bare));
    }

-- ---- what it does

-- a statement that is refused
pub refused-does : (p : Literal → Bool) (out : Outcome) (before : SeenEnv) (why : Refusal) (said said' : Text) (h : Purse) (r : Result ⊤ NoMemory) → Did (env_of before) (refusal why) out → OnOk r (said' ≡ said ++ refusal why) → OnErr r (said' ≡ said) →
    Does p ⊤ 0 1 out (said' ≡ said) before before said said' h h r
refused-does p out before why said said' h r did ok err = record {
  env = always _ r did.env;
  text = on-ok _ _ r ok (λ told. told ∙ ap (λ x. said ++ x) did.text);
  kept = err;
  most = always-err _ r (omega (arith, ap (λ e. e.allowed) did.env));
  costs = record { copied = record { copied = omega arith; kept = omega arith }; falls = omega arith };
  bare = λ names none. always _ r (record { bare = names; sum = omega arith });
}

-- two entries that stand at one place have one value
pub same-value : (name : Text) (names : List SeenEntry) (at : ℕ) (e e' : SeenEntry) → env.place_of name (map entry_of names) ≡ Some at → e ≡ get_or names at e → e' ≡ get_or names at e' → e.seen.value ≡ e'.seen.value
same-value name names at e e' place is is' =
    let both : Some (entry_of e) ≡ Some (entry_of e') = sym (there name names at e place is).read ∙ (there name names at e' place is').read in
    let one : entry_of e ≡ entry_of e' = cc in
    ap (λ (x : Entry). x.value) one

module _ (p : Literal → Bool) (before : SeenEnv) (name : Text) (at : ℕ) (e e' : SeenEntry) (place : env.place_of name (map entry_of before.names) ≡ Some at) (is : e ≡ get_or before.names at e) (shapes : List Shape) (i : ℤ) (asked : Verb)
    (views : has_views e.seen.value ≡ true) (k : ℕ) (named : index 0 (length shapes) i ≡ Some k) (shape : Shape) (rule : slice_get shapes k ≡ Some shape) (same : entry_of e' ≡ env.shared (entry_of e))
    (spent : ℕ) (cost : spent ≡ view_cost asked (items_of e.seen.value)) {h h' : Purse} (costs : EntryCosts p (view_cost asked (items_of e.seen.value)) ⊤ e e' h h') (said said' : Text) where
  -- the environment afterwards
  abbrev after : ℕ → SeenEnv
  after left = record { names = set before.names at e'; room = left; allowed = before.allowed + spent }

  env-after : (left : ℕ) → env_of (after left) ≡ env_of (record { names = set before.names at e'; room = left; allowed = before.allowed + view_cost asked (items_of e.seen.value) })
  env-after left = ap {B = Environment} (λ n. record { names = map entry_of (set before.names at e'); room = left; allowed = before.allowed + n }) cost

  -- the line had room
  pub shown-does : (left : ℕ) → said' ≡ said ++ view_line asked (view shape (items_of e.seen.value)) → left + used_room asked (view_line asked (view shape (items_of e.seen.value))) ≡ before.room →
      Does p ⊤ 0 1 (lazy_in (env_of before) shapes name i asked) (said' ≡ said) before (record { names = set before.names at e'; room = left; allowed = before.allowed + spent }) said said' h h' (Ok tt)
  shown-does left told fits =
      let did = shown before name at e place is shapes i asked views k named shape rule e' same left fits in
      record {
        env = env-after left ∙ did.env;
        text = told ∙ ap (λ x. said ++ x) did.text;
        kept = _;
        most = _;
        costs = looks-cost costs (ap (λ n. before.allowed + n) cost);
        bare = λ names none. changed-bare p name before.names at e place is names costs tt;
      }

  -- it had none, and the refusal was told
  pub unshown-does : (said'' : Text) (r : Result ⊤ NoMemory) → said' ≡ said → before.room < used_room asked (view_line asked (view shape (items_of e.seen.value))) → OnOk r (said'' ≡ said' ++ refusal TextFull) → OnErr r (said'' ≡ said') →
      Does p ⊤ 0 1 (lazy_in (env_of before) shapes name i asked) (said'' ≡ said) before (record { names = set before.names at e'; room = before.room; allowed = before.allowed + spent }) said said'' h h' r
  unshown-does said'' r none longer ok err =
      let did = unshown before name at e place is shapes i asked views k named shape rule e' same longer in
      record {
        env = always _ r (env-after before.room ∙ did.env);
        text = on-ok _ _ r ok (λ told. told ∙ (ap (λ x. x ++ refusal TextFull) none ∙ ap (λ x. said ++ x) did.text));
        kept = on-err _ _ r err (λ back. back ∙ none);
        most = always-err _ r (omega (arith, cost, allows before name at e place is shapes i asked views k named shape rule));
        costs = looks-cost costs (ap (λ n. before.allowed + n) cost);
        bare = λ names none. always _ r (changed-bare p name before.names at e place is names costs tt);
      }

  -- memory ran out
  pub lost-does : (failure : NoMemory) → said' ≡ said →
      Does p ⊤ 0 1 (lazy_in (env_of before) shapes name i asked) (said' ≡ said) before (record { names = set before.names at e'; room = before.room; allowed = before.allowed + spent }) said said' h h' (Err failure)
  lost-does failure none = record {
    env = _;
    text = _;
    kept = none;
    most = omega (arith, cost, allows before name at e place is shapes i asked views k named shape rule);
    costs = looks-cost costs (ap (λ n. before.allowed + n) cost);
    bare = λ names none. _;
  }

-- ---- what is asked

-- a value without views asks nothing
asks-viewless : (shapes : List Shape) (i : ℤ) (asked : Verb) (k : ℕ) (v : Plain) → has_views v ≡ false → asks_value shapes i asked k v ≡ 0
asks-viewless shapes i asked k (Array items) is = cc
asks-viewless shapes i asked k v is = refl

asks-viewed : (shapes : List Shape) (i : ℤ) (asked : Verb) (k : ℕ) (v : Plain) → has_views v ≡ true → asks_value shapes i asked k v ≡ asks_at shapes (index 0 (length shapes) i) asked k (items_of v)
asks-viewed shapes i asked k (Array items) is = refl
asks-viewed shapes i asked k v is = cc

-- no other rule is asked
others-unasked : (b : Bool) (n : ℕ) → b ≡ false → (if b then n else 0) ≡ 0
others-unasked true n is = cc
others-unasked false n is = refl

this-asked : (b : Bool) (n : ℕ) → b ≡ true → (if b then n else 0) ≡ n
this-asked true n is = refl
this-asked false n is = cc

pub none-asked : (shapes : List Shape) (i : ℤ) (asked : Verb) (o : Option Entry) → o ≡ None → (numbers : List ℕ) → numbers ≡ raised_by (λ k. asks_entry shapes i asked k o) numbers
none-asked shapes i asked o is numbers = sym (raised-none _ (λ k. ap (asks_entry shapes i asked k) is) numbers)

module _ (shapes : List Shape) (i : ℤ) (asked : Verb) (o : Option Entry) (e : Entry) (there-is : o ≡ Some e) where
  pub viewless-asked : has_views e.value ≡ false → (numbers : List ℕ) → numbers ≡ raised_by (λ k. asks_entry shapes i asked k o) numbers
  viewless-asked none numbers = sym (raised-none _ (λ k. ap (asks_entry shapes i asked k) there-is ∙ asks-viewless shapes i asked k e.value none) numbers)

  module _ (views : has_views e.value ≡ true) where
    asks-here : (k : ℕ) → asks_entry shapes i asked k o ≡ asks_at shapes (index 0 (length shapes) i) asked k (items_of e.value)
    asks-here k = ap (asks_entry shapes i asked k) there-is ∙ asks-viewed shapes i asked k e.value views

    pub ruleless-asked : index 0 (length shapes) i ≡ None → (numbers : List ℕ) → numbers ≡ raised_by (λ k. asks_entry shapes i asked k o) numbers
    ruleless-asked none numbers = sym (raised-none _ (λ k. asks-here k ∙ ap (λ p. asks_at shapes p asked k (items_of e.value)) none) numbers)

    -- one rule was asked
    pub one-asked : (place : ℕ) → index 0 (length shapes) i ≡ Some place → (shape : Shape) → slice_get shapes place ≡ Some shape → (numbers : List ℕ) (d : ℕ) →
        set numbers place (raised (asks (items_of e.value) shape asked) (get_or numbers place d)) ≡ raised_by (λ k. asks_entry shapes i asked k o) numbers
    one-asked place named shape rule numbers d =
        let at : (k : ℕ) → asks_entry shapes i asked k o ≡ (if k == place then asks_about (items_of e.value) asked (slice_get shapes k) else 0) = λ k. asks-here k ∙ ap (λ p. asks_at shapes p asked k (items_of e.value)) named in
        let here : asks_entry shapes i asked place o ≡ asks (items_of e.value) shape asked = at place ∙ (this-asked (place == place) _ (search arith) ∙ ap (asks_about (items_of e.value) asked) rule) in
        sym (raised-one (λ k. asks_entry shapes i asked k o) place (asks (items_of e.value) shape asked) here (λ k apart. at k ∙ others-unasked (k == place) _ (search (arith, apart))) numbers d)

-- ---- the rules that were lent

-- the name isn't there
pub not-there : (name : Text) (before : SeenEnv) → env.place_of name (map entry_of before.names) ≡ None → entry_in name before ≡ None
not-there name before none = rw none refl

module _ {A : Type 0} (rules : List A) (shape_in : A → Shape) (place : ℕ) (rule d : A) where
  -- a rule that was asked has its shape, and so have the others
  pub lent-shapes : shape_in rule ≡ shape_in (get_or rules place d) → map shape_in (set rules place rule) ≡ map shape_in rules
  lent-shapes same = map-set_same shape_in rules place rule d same

  module _ (inside : place < length rules) where
    -- its shape is the one at its place
    pub lent-shape : slice_get (map shape_in rules) place ≡ Some (shape_in (get_or rules place d))
    lent-shape =
        let within : place < length (map shape_in rules) = omega (arith, inside, length-map rules shape_in) in
        slice_get-get_or (map shape_in rules) place (shape_in d) within ∙ ap Some (get_or-map shape_in rules place d)

    -- it was asked, and no other was
    pub lent-asked : (asked_in : A → ℕ) (i : ℤ) (asked : Verb) (o : Option Entry) (e : Entry) → o ≡ Some e → has_views e.value ≡ true → index 0 (length rules) i ≡ Some place → asked_in rule ≡ raised (asks (items_of e.value) (shape_in (get_or rules place d)) asked) (asked_in (get_or rules place d)) →
        map asked_in (set rules place rule) ≡ raised_by (λ k. asks_entry (map shape_in rules) i asked k o) (map asked_in rules)
    lent-asked asked_in i asked o e there-is views named did =
        let here : asked_in (get_or rules place d) ≡ get_or (map asked_in rules) place (asked_in d) = sym (get_or-map asked_in rules place d) in
        let named' : index 0 (length (map shape_in rules)) i ≡ Some place = ap (λ n. index 0 n i) (length-map rules shape_in) ∙ named in
        map-set asked_in rules place rule
        ∙ (ap (set (map asked_in rules) place) (did ∙ ap (raised (asks (items_of e.value) (shape_in (get_or rules place d)) asked)) here)
        ∙ one-asked (map shape_in rules) i asked o e there-is views place named' (shape_in (get_or rules place d)) lent-shape (map asked_in rules) (asked_in d))

-- which rule a number names, by the rules or by their shapes
pub named-by : {A : Type 0} (rules : List A) (shape_in : A → Shape) (i : ℤ) (o : Option ℕ) → index 0 (length rules) i ≡ o → index 0 (length (map shape_in rules)) i ≡ o
named-by rules shape_in i o named = ap (λ n. index 0 n i) (length-map rules shape_in) ∙ named
