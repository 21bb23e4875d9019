-- A statement that is no fork allows its literals at least: nothing that it does allows fewer copies than before.
use Rattle.std.proofs.Common.{ℕ, ◌+◌, ◌≤◌, List, length, Bool, true, false, Option, Some, None, arith}
use Rattle.std.specs.Prelude.{ℤ, nat_lt, Ok, Err, if◌then◌else◌}
use Rattle.std.specs.Str.{bytes_eq}
use Rattle.cow_model.specs.declared.outcome.Entry.{Entry}
use Rattle.cow_model.specs.declared.outcome.Environment.{Environment}
use Rattle.cow_model.specs.declared.outcome.Outcome.{Outcome}
use Rattle.cow_model.specs.declared.plain.Literal.{Literal}
use Rattle.cow_model.specs.declared.shape.Shape.{Shape}
use Rattle.cow_model.specs.declared.statement.Statement.TheOpen.{Statement-F}
use Rattle.cow_model.specs.declared.statement.Verb.{Verb}
use Rattle.cow_model.specs.declared.statement.Verb.TheVariants as verb
use Rattle.cow_model.specs.declared.value.Plain.{Plain}
use Rattle.cow_model.specs.declared.value.Plain.TheVariants.{Array}
use Rattle.cow_model.specs.Lexis.{Text}
use Rattle.cow_model.specs.Env.{entry_of, has_place, allow}
use Rattle.cow_model.specs.Operation as operation
use Rattle.cow_model.specs.Operation.{Answer, index}
use Rattle.cow_model.specs.Query.{Told}
use Rattle.cow_model.specs.Lazy.{view}
use Rattle.cow_model.specs.Printed.{line, plain_text, list_text}
use Rattle.cow_model.specs.Sharing.{Layer, literals}
use Rattle.cow_model.specs.Step.{settles, with_found, with_entry, second_in, sliced, print_in, told, told_both, becomes, view_in, shape_of, through, lazy_at, act, step}
use Rattle.cow_model.proofs.StepParts.{Parts, changing-holds}

-- no fewer copies are allowed afterwards
abbrev pub Allows : Environment → Outcome → Type 0
Allows env out = env.allowed ≤ out.env.allowed

-- one of two outcomes
pub either_allows : (env : Environment) (b : Bool) (x y : Outcome) → Allows env x → Allows env y → Allows env (if b then x else y)
either_allows env true x y p q = p
either_allows env false x y p q = q

-- an entry that has to be there
found_allows : (env : Environment) (e : Option Entry) (run : Entry → Outcome) → ((e : Entry) → Allows env (run e)) → Allows env (with_found env e run)
found_allows env None run h = omega arith
found_allows env (Some e) run h = h e

-- the entry of a name
entry_allows : (env : Environment) (name : Text) (run : Entry → Outcome) → ((e : Entry) → Allows env (run e)) → Allows env (with_entry env name run)
entry_allows env name run h = found_allows env (entry_of name env.names) run h

-- ---- statements that are no fork

-- a second value made of another
second_allows : (env : Environment) (name other : Text) (value : Plain) → Allows env (second_in env name other value)
second_allows env name other value = either_allows env (has_place name env.names) _ _ (omega arith) (omega arith)

-- a slice
sliced_allows : (env : Environment) (name other : Text) (answer : Answer) → Allows env (sliced env name other answer)
sliced_allows env name other (Err why) = omega arith
sliced_allows env name other (Ok done) = second_allows env name other done.value

-- a line that uses room
print_allows : (env : Environment) (text : Text) → Allows env (print_in env text)
print_allows env text = either_allows env (nat_lt env.room (length text)) _ _ (omega arith) (omega arith)

-- a line that was told
told_allows : (env : Environment) (answer : Told) → Allows env (told env answer)
told_allows env (Err why) = omega arith
told_allows env (Ok text) = omega arith

-- one of two environments
either_env : (env : Environment) (b : Bool) (x y : Environment) → env.allowed ≤ x.allowed → env.allowed ≤ y.allowed → env.allowed ≤ (if b then x else y).allowed
either_env env true x y p q = p
either_env env false x y p q = q

-- what two values told
told_both_allows : (env : Environment) (name other : Text) (answer : Told) → Allows env (told_both env name other answer)
told_both_allows env name other (Err why) = omega arith
told_both_allows env name other (Ok text) = either_env env (bytes_eq name other) (settles name env) env (omega arith) (omega arith)

-- a name's value becomes another
becomes_allows : (env : Environment) (name : Text) (n : ℕ) (alone : Plain → Bool) (answer : Answer) → Allows env (becomes env name n alone answer)
becomes_allows env name n alone (Err why) = omega arith
becomes_allows env name n alone (Ok done) = omega arith

-- `lazy N I VERB` of these atoms
view_allows : (env : Environment) (name : Text) (items seen : List Literal) (asked : Verb) → Allows env (view_in env name items seen asked)
view_allows env name items seen verb.First = omega arith
view_allows env name items seen verb.Show = either_allows env (nat_lt env.room (length (line (list_text seen)))) _ _ (omega arith) (omega arith)
view_allows env name items seen verb.Count = omega arith

-- a lazy statement through a rule
through_allows : (env : Environment) (name : Text) (asked : Verb) (items : List Literal) (shape : Option Shape) → Allows env (through env name asked items shape)
through_allows env name asked items None = omega arith
through_allows env name asked items (Some shape) = view_allows env name items (view shape items) asked

-- a lazy statement on a value
lazy_at_allows : (env : Environment) (shapes : List Shape) (name : Text) (i : ℤ) (asked : Verb) (value : Plain) → Allows env (lazy_at env shapes name i asked value)
lazy_at_allows env shapes name i asked (Array items) = through_allows env name asked items (shape_of shapes (index 0 (length shapes) i))
lazy_at_allows env shapes name i asked value = omega arith

-- ---- statements

-- a statement that changes values, or reads
parts_allow : (env : Environment) → Parts (Allows env) env
parts_allow env = record {
  still = omega arith;
  asks = λ name tells. entry_allows env name _ (λ e. told_allows env (tells e.value));
  asks_both = λ name other tells. entry_allows env name _ (λ e. entry_allows env other _ (λ f. told_both_allows env name other (tells e.value f.value)));
  turns = λ s name. entry_allows env name _ (λ e. becomes_allows env name _ _ _);
  turns_by = λ s name other. entry_allows env name _ (λ e. entry_allows env other _ (λ f. becomes_allows env name _ _ _));
}

-- what a statement does once its literals are allowed
act_allows : (env : Environment) (shapes : List Shape) (s : Layer) → Allows env (act env shapes s)
act_allows env shapes (Statement-F.Let l n kind atoms) = either_allows env (has_place n env.names) _ _ (omega arith) (omega arith)
act_allows env shapes (Statement-F.Assign l n m) = entry_allows env m _ (λ e. second_allows env n m e.value)
act_allows env shapes (Statement-F.Slice l n m i j) = entry_allows env m _ (λ e. sliced_allows env n m (operation.slice i j e.value))
act_allows env shapes (Statement-F.Discard l n) = entry_allows env n _ (λ e. omega arith)
act_allows env shapes (Statement-F.Show l n) = entry_allows env n _ (λ e. print_allows env (line (plain_text e.value)))
act_allows env shapes (Statement-F.Lazy l n i verb) = entry_allows env n _ (λ e. lazy_at_allows env shapes n i verb e.value)
act_allows env shapes s = changing-holds (Allows env) env (parts_allow env) s

-- a statement that is no fork allows its literals at least
pub step_allows : (env : Environment) (shapes : List Shape) (s : Layer) → env.allowed + literals s ≤ (step env shapes s).env.allowed
step_allows env shapes s = act_allows (allow (literals s) env) shapes s
