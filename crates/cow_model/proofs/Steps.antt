-- What holds of the values of all names before a statement, and what holds of them after it.
use Rattle.std.proofs.Common.{◌≡◌, ℕ, ◌≤◌, ℤ, Bool, true, false, List, length, Option, Some, None, Ok, Err, All, refl}
use Rattle.std.specs.Prelude.{nat_lt, if◌then◌else◌}
use Rattle.std.specs.Str.{bytes_eq}
use Rattle.std.proofs.lemmas.List.Elements.{All-set, All-weaker}
use Rattle.cow_model.specs.declared.outcome.Entry.{Entry}
use Rattle.cow_model.specs.declared.outcome.Environment.{Environment}
use Rattle.cow_model.specs.declared.outcome.Outcome.{Outcome}
use Rattle.cow_model.specs.declared.plain.Literal.{Literal}
use Rattle.cow_model.specs.declared.shape.Shape.{Shape}
use Rattle.cow_model.specs.declared.statement.Kind.{Kind}
use Rattle.cow_model.specs.declared.statement.Statement.TheOpen.{Statement-F}
use Rattle.cow_model.specs.declared.statement.Verb.{Verb}
use Rattle.cow_model.specs.declared.statement.Verb.TheVariants as verb
use Rattle.cow_model.specs.declared.value.Plain.{Plain}
use Rattle.cow_model.specs.declared.value.Plain.TheVariants.{Array, Slice, Deque, Set, Dict, OSet, ODict, Heap, TSet, TDict}
use Rattle.cow_model.specs.Answers.{value_after}
use Rattle.cow_model.specs.Env.{place_of, entry_at, has_place, given_at, without_at, settled_at, settled, allow}
use Rattle.cow_model.specs.Lazy.{view}
use Rattle.cow_model.specs.Lexis.{Text}
use Rattle.cow_model.specs.Operation as operation
use Rattle.cow_model.specs.Operation.{Answer, silent, at_place, index, stretch, fitting}
use Rattle.cow_model.specs.Plain.{max_count}
use Rattle.cow_model.specs.Printed.{line, plain_text, list_text}
use Rattle.cow_model.specs.Query.{Told}
use Rattle.cow_model.specs.Run.{run_layer}
use Rattle.cow_model.specs.Sharing.{Layer, literals}
use Rattle.cow_model.specs.Step.{settles, with_found, with_entry, second_in, sliced, print_in, told, told_both, becomes, view_in, shape_of, through, lazy_at, act, step}
use Rattle.cow_model.specs.Turns.{turn_of, turn_by_of}
use Rattle.cow_model.proofs.ListSteps.{All-push, All-at, All-remove}
use Rattle.cow_model.proofs.StepParts.{Parts, changing-holds}

-- something holds of the values of all names
abbrev pub Values : (Plain → Type 0) → List Entry → Type 0
Values P names = All (λ e. P e.value) names

-- and so it does after a statement
abbrev pub Leaves : (Plain → Type 0) → Outcome → Type 0
Leaves P out = Values P out.env.names

-- ---- the names of an environment

module _ (P : Plain → Type 0) where
  -- a name is given a value
  given-leaves : (place : Option ℕ) (e : Entry) (names : List Entry) → P e.value → Values P names → Values P (given_at place e names)
  given-leaves None e names p h = All-push (λ e. P e.value) names e h p
  given-leaves (Some i) e names p h = All-set (λ e. P e.value) names i e p h

  -- a name goes
  without-leaves : (place : Option ℕ) (names : List Entry) → Values P names → Values P (without_at place names)
  without-leaves None names h = h
  without-leaves (Some i) names h = All-remove (λ e. P e.value) names i h

  -- a value that a name has
  pub value-has : (place : Option ℕ) (names : List Entry) (e : Entry) → entry_at place names ≡ Some e → Values P names → P e.value
  value-has None names e is h = cc
  value-has (Some i) names e is h = All-at (λ e. P e.value) names i e h is

  -- a flag is turned
  settled-leaves : (place : Option ℕ) (found : Option Entry) (names : List Entry) → entry_at place names ≡ found → Values P names → Values P (settled_at place found names)
  settled-leaves None found names is h = h
  settled-leaves (Some i) None names is h = h
  settled-leaves (Some i) (Some e) names is h = All-set (λ e. P e.value) names i _ (value-has (Some i) names e is h) h

  settles-leaves : (env : Environment) (name : Text) → Values P env.names → Values P (settles name env).names
  settles-leaves env name h = settled-leaves (place_of name env.names) _ env.names refl h

-- ---- statements that are no fork, one part at a time

module _ (P : Plain → Type 0) (env : Environment) (after : Values P env.names) where
  -- one of two outcomes
  either : (b : Bool) (x y : Outcome) → Leaves P x → Leaves P y → Leaves P (if b then x else y)
  either true x y p q = p
  either false x y p q = q

  -- a second value made of another
  second : (name other : Text) (value : Plain) → P value → Leaves P (second_in env name other value)
  second name other value p =
      either (has_place name env.names) _ _
      (given-leaves P (place_of name (settled other env.names)) _ (settled other env.names) p (settles-leaves P env other after))
      after

  -- a slice, by its answer
  cut : (name other : Text) (r : Option (ℕ × ℕ)) (make : ℕ × ℕ → Plain)
      → ((w : Plain) → at_place r (λ x. silent (make x)) ≡ silent w → P w)
      → Leaves P (sliced env name other (at_place r (λ x. silent (make x))))
  cut name other None make p = after
  cut name other (Some x) make p = second name other (make x) (p (make x) refl)

  -- a slice of a value
  slice-leaves : (name other : Text) (i j : ℤ) (v : Plain)
      → ((w : Plain) → operation.slice i j v ≡ silent w → P w) → Leaves P (sliced env name other (operation.slice i j v))
  slice-leaves name other i j (Array items) p = cut name other (stretch (length items) i j) _ p
  slice-leaves name other i j (Slice start items) p = after
  slice-leaves name other i j (Deque items) p = after
  slice-leaves name other i j (Set items) p = after
  slice-leaves name other i j (Dict pairs) p = after
  slice-leaves name other i j (OSet items) p = after
  slice-leaves name other i j (ODict pairs) p = after
  slice-leaves name other i j (Heap items) p = after
  slice-leaves name other i j (TSet items) p = after
  slice-leaves name other i j (TDict pairs) p = after

  -- a line that uses room
  print : (text : Text) → Leaves P (print_in env text)
  print text = either (nat_lt env.room (length text)) _ _ after after

  -- a line that was told
  tell : (answer : Told) → Leaves P (told env answer)
  tell (Err why) = after
  tell (Ok text) = after

  -- what two values told: at most a flag is turned
  same-or : (b : Bool) (name : Text) → Values P (if b then settles name env else env).names
  same-or true name = settles-leaves P env name after
  same-or false name = after

  tell-both : (name other : Text) (answer : Told) → Leaves P (told_both env name other answer)
  tell-both name other (Err why) = after
  tell-both name other (Ok text) = same-or (bytes_eq name other) name

  -- a name's value becomes another
  become : (name : Text) (n : ℕ) (alone : Plain → Bool) (v : Plain) (answer : Answer) → P (value_after v answer) → Leaves P (becomes env name n alone answer)
  become name n alone v (Err why) p = after
  become name n alone v (Ok done) p = given-leaves P (place_of name env.names) _ env.names p after

  -- a lazy statement through a rule
  see : (name : Text) (items seen : List Literal) (asked : Verb) → Leaves P (view_in env name items seen asked)
  see name items seen verb.First = settles-leaves P env name after
  see name items seen verb.Show =
      either (nat_lt env.room (length (line (list_text seen)))) _ _ (settles-leaves P env name after) (settles-leaves P env name after)
  see name items seen verb.Count = settles-leaves P env name after

  see-through : (name : Text) (asked : Verb) (items : List Literal) (shape : Option Shape) → Leaves P (through env name asked items shape)
  see-through name asked items None = after
  see-through name asked items (Some shape) = see name items (view shape items) asked

  see-at : (shapes : List Shape) (name : Text) (i : ℤ) (asked : Verb) (v : Plain) → Leaves P (lazy_at env shapes name i asked v)
  see-at shapes name i asked (Array items) = see-through name asked items (shape_of shapes (index 0 (length shapes) i))
  see-at shapes name i asked v = after

-- Q of each value before a statement leads to P of each value after it, for every way in which a value is made
pub record Leads (Q P : Plain → Type 0) : Type 0 where
  pub weaken : (v : Plain) → Q v → P v
  pub turn : (s : Layer) (v : Plain) → Q v → P (value_after v ((turn_of s).run v))
  pub turn_by : (s : Layer) (v w : Plain) → Q v → Q w → P (value_after v ((turn_by_of s w).run v))
  pub made : (k : Kind) (atoms : List Literal) → length atoms ≤ max_count → P (operation.made k atoms)
  pub slice : (i j : ℤ) (v w : Plain) → operation.slice i j v ≡ silent w → Q v → P w

module _ (Q P : Plain → Type 0) (leads : Leads Q P) (env : Environment) (before : Values Q env.names) where
  -- what holds of the values where nothing changes
  still : Values P env.names
  still = All-weaker (λ e. Q e.value) (λ e. P e.value) (λ e. leads.weaken e.value) env.names before

  -- a statement on the entry of a name
  on-found : (name : Text) (found : Option Entry) (run : Entry → Outcome) → entry_at (place_of name env.names) env.names ≡ found
      → ((e : Entry) → Q e.value → Leaves P (run e)) → Leaves P (with_found env found run)
  on-found name None run is h = still
  on-found name (Some e) run is h = h e (value-has Q (place_of name env.names) env.names e is before)

  on-entry : (name : Text) (run : Entry → Outcome) → ((e : Entry) → Q e.value → Leaves P (run e)) → Leaves P (with_entry env name run)
  on-entry name run h = on-found name (entry_at (place_of name env.names) env.names) run refl h

  -- a statement that changes values, or reads
  parts : Parts (Leaves P) env
  parts = record {
    still = still;
    asks = λ name tells. on-entry name _ (λ e q. tell P env still (tells e.value));
    asks_both = λ name other tells. on-entry name _ (λ e q. on-entry other _ (λ f r. tell-both P env still name other (tells e.value f.value)));
    turns = λ s name. on-entry name _ (λ e q. become P env still name _ _ e.value _ (leads.turn s e.value q));
    turns_by = λ s name other. on-entry name _ (λ e q. on-entry other _ (λ f r. become P env still name _ _ e.value _ (leads.turn_by s e.value f.value q r)));
  }

  -- what a statement does once its literals are allowed
  act-leaves : (shapes : List Shape) (s : Layer) → literals s ≤ max_count → Leaves P (act env shapes s)
  act-leaves shapes (Statement-F.Let l n kind atoms) few =
      either P env still (has_place n env.names) _ _ (given-leaves P (place_of n env.names) _ env.names (leads.made kind atoms few) still) still
  act-leaves shapes (Statement-F.Assign l n m) few = on-entry m _ (λ e q. second P env still n m e.value (leads.weaken e.value q))
  act-leaves shapes (Statement-F.Slice l n m i j) few = on-entry m _ (λ e q. slice-leaves P env still n m i j e.value (λ w is. leads.slice i j e.value w is q))
  act-leaves shapes (Statement-F.Discard l n) few = on-entry n _ (λ e q. without-leaves P (place_of n env.names) env.names still)
  act-leaves shapes (Statement-F.Show l n) few = on-entry n _ (λ e q. print P env still (line (plain_text e.value)))
  act-leaves shapes (Statement-F.Lazy l n i verb) few = on-entry n _ (λ e q. see-at P env still shapes n i verb e.value)
  act-leaves shapes s few = changing-holds (Leaves P) env parts s

-- after a statement that is no fork P holds of all values, where Q does before it
pub step-leaves : (Q P : Plain → Type 0) → Leads Q P → (env : Environment) (shapes : List Shape) (s : Layer)
    → literals s ≤ max_count → Values Q env.names → Values P (step env shapes s).env.names
step-leaves Q P leads env shapes s few before = act-leaves Q P leads (allow (literals s) env) before shapes s few

-- whether a statement is a fork
abbrev pub is_fork : Layer → Bool
is_fork (Statement-F.Fork l tasks) = true
is_fork s = false

-- in the main block a statement that is no fork does what a step does
pub layer-step : (env : Environment) (shapes : List Shape) (s : Layer) → is_fork s ≡ false → run_layer env shapes s ≡ step env shapes s
layer-step env shapes (Statement-F.Fork l tasks) none = cc
layer-step env shapes s none = refl
