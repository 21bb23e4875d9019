-- How many copies more a statement that is no fork may allow: its literals, and four for each of the 65,536 elements that a value may have.
use Rattle.std.proofs.Common.{◌≡◌, ℕ, ◌+◌, ◌*◌, ◌^◌, ◌≤◌, ℤ, Bool, true, false, List, length, Option, Some, None, Ok, Err, refl, arith}
use Rattle.std.specs.Prelude.{nat_lt, if◌then◌else◌}
use Rattle.std.specs.Str.{bytes_eq}
use Rattle.cow_model.specs.declared.outcome.Entry.{Entry}
use Rattle.cow_model.specs.declared.outcome.Environment.{Environment}
use Rattle.cow_model.specs.declared.outcome.Outcome.{Outcome}
use Rattle.cow_model.specs.declared.plain.Literal.{Literal}
use Rattle.cow_model.specs.declared.shape.Shape.{Shape}
use Rattle.cow_model.specs.declared.statement.Statement.TheOpen.{Statement-F}
use Rattle.cow_model.specs.declared.statement.Verb.{Verb}
use Rattle.cow_model.specs.declared.statement.Verb.TheVariants as verb
use Rattle.cow_model.specs.declared.value.Plain.{Plain}
use Rattle.cow_model.specs.declared.value.Plain.TheVariants.{Array}
use Rattle.cow_model.specs.Env.{place_of, entry_at, has_place, allow}
use Rattle.cow_model.specs.Lazy.{view}
use Rattle.cow_model.specs.Lexis.{Text}
use Rattle.cow_model.specs.Operation as operation
use Rattle.cow_model.specs.Operation.{Answer, index}
use Rattle.cow_model.specs.Plain.{count, max_count}
use Rattle.cow_model.specs.Printed.{line, plain_text, list_text}
use Rattle.cow_model.specs.Query.{Told}
use Rattle.cow_model.specs.Sharing.{Layer, literals, both_cost}
use Rattle.cow_model.specs.Step.{settles, with_found, with_entry, second_in, sliced, print_in, told, told_both, becomes, as_changed, view_in, shape_of, through, lazy_at, act, step}
use Rattle.cow_model.specs.Turns.{turn_of, added_of}
use Rattle.cow_model.proofs.Costs.{cost-most, both-most}
use Rattle.cow_model.proofs.Counts.{size-count}
use Rattle.cow_model.proofs.StepParts.{Parts, changing-holds}
use Rattle.cow_model.proofs.Steps.{Values, value-has}

-- at most four copies more are allowed for each element that a value may have
abbrev Rises : Environment → Outcome → Type 0
Rises env out = out.env.allowed ≤ env.allowed + 4 * max_count

module _ (env : Environment) where
  -- one of two outcomes
  either : (b : Bool) (x y : Outcome) → Rises env x → Rises env y → Rises env (if b then x else y)
  either true x y p q = p
  either false x y p q = q

  -- a second value made of another
  second : (name other : Text) (value : Plain) → Rises env (second_in env name other value)
  second name other value = either (has_place name env.names) _ _ (omega arith) (omega arith)

  -- a slice, by its answer
  cut : (name other : Text) (answer : Answer) → Rises env (sliced env name other answer)
  cut name other (Err why) = omega arith
  cut name other (Ok done) = second name other done.value

  -- a line that uses room
  print : (text : Text) → Rises env (print_in env text)
  print text = either (nat_lt env.room (length text)) _ _ (omega arith) (omega arith)

  -- a line that was told
  tell : (answer : Told) → Rises env (told env answer)
  tell (Err why) = omega arith
  tell (Ok text) = omega arith

  -- what two values told: at most a flag is turned
  same-or : (b : Bool) (name : Text) → (if b then settles name env else env).allowed ≤ env.allowed + 4 * max_count
  same-or true name = omega arith
  same-or false name = omega arith

  tell-both : (name other : Text) (answer : Told) → Rises env (told_both env name other answer)
  tell-both name other (Err why) = omega arith
  tell-both name other (Ok text) = same-or (bytes_eq name other) name

  -- a name's value becomes another
  become : (name : Text) (n : ℕ) (alone : Plain → Bool) (answer : Answer) → n ≤ 4 * max_count → Rises env (becomes env name n alone answer)
  become name n alone (Err why) most = omega arith
  become name n alone (Ok done) most = omega (arith, most)

  -- a lazy statement through a rule
  see : (name : Text) (items seen : List Literal) (asked : Verb) → length items ≤ max_count → Rises env (view_in env name items seen asked)
  see name items seen verb.First small = omega arith
  see name items seen verb.Show small = either (nat_lt env.room (length (line (list_text seen)))) _ _ (omega (arith, small)) (omega (arith, small))
  see name items seen verb.Count small = omega arith

  see-through : (name : Text) (asked : Verb) (items : List Literal) (shape : Option Shape) → length items ≤ max_count → Rises env (through env name asked items shape)
  see-through name asked items None small = omega arith
  see-through name asked items (Some shape) small = see name items (view shape items) asked small

  see-at : (shapes : List Shape) (name : Text) (i : ℤ) (asked : Verb) (v : Plain) → count v ≤ max_count → Rises env (lazy_at env shapes name i asked v)
  see-at shapes name i asked (Array items) small = see-through name asked items (shape_of shapes (index 0 (length shapes) i)) small
  see-at shapes name i asked v small = omega arith

-- the cost of one key or of a whole value
costs : (s : Layer) (alone : Bool) (v : Plain) → count v ≤ max_count → (turn_of s).cost alone v ≤ 4 * max_count
costs s alone v small = omega (arith, cost-most s alone v, small)

-- the cost of a change by another value, whichever flag counts
by-cost : (b : Bool) (e : Entry) → both_cost (if b then record e { alone = false } else e) ≤ 2 * count e.value
by-cost true e = both-most false e.value
by-cost false e = both-most e.alone e.value

-- what is added of the other value
adds-most : (s : Layer) (v : Plain) → added_of s v ≤ 2 * count v
adds-most (Statement-F.Inter l n m) v = omega arith
adds-most (Statement-F.Minus l n m) v = omega arith
adds-most (Statement-F.Within l n m) v = omega arith
adds-most s v = size-count v

-- the cost of a change by another value, and what is added of that
costs-by : (s : Layer) (name other : Text) (e f : Entry) → count e.value ≤ max_count → count f.value ≤ max_count
    → both_cost (as_changed name other e) + added_of s f.value ≤ 4 * max_count
costs-by s name other e f small also = omega (arith, by-cost (bytes_eq name other) e, adds-most s f.value, small, also)

module _ (env : Environment) (small : Values (λ v. count v ≤ max_count) env.names) where
  -- a statement on the entry of a name
  on-found : (name : Text) (found : Option Entry) (run : Entry → Outcome) → entry_at (place_of name env.names) env.names ≡ found
      → ((e : Entry) → count e.value ≤ max_count → Rises env (run e)) → Rises env (with_found env found run)
  on-found name None run is h = omega arith
  on-found name (Some e) run is h = h e (value-has (λ v. count v ≤ max_count) (place_of name env.names) env.names e is small)

  on-entry : (name : Text) (run : Entry → Outcome) → ((e : Entry) → count e.value ≤ max_count → Rises env (run e)) → Rises env (with_entry env name run)
  on-entry name run h = on-found name (entry_at (place_of name env.names) env.names) run refl h

  -- a statement that changes values, or reads
  parts : Parts (Rises env) env
  parts = record {
    still = omega arith;
    asks = λ name tells. on-entry name _ (λ e few. tell env (tells e.value));
    asks_both = λ name other tells. on-entry name _ (λ e few. on-entry other _ (λ f also. tell-both env name other (tells e.value f.value)));
    turns = λ s name. on-entry name _ (λ e few. become env name _ _ _ (costs s e.alone e.value few));
    turns_by = λ s name other. on-entry name _ (λ e few. on-entry other _ (λ f also. become env name _ _ _ (costs-by s name other e f few also)));
  }

  -- what a statement does once its literals are allowed
  act-rises : (shapes : List Shape) (s : Layer) → Rises env (act env shapes s)
  act-rises shapes (Statement-F.Let l n kind atoms) = either env (has_place n env.names) _ _ (omega arith) (omega arith)
  act-rises shapes (Statement-F.Assign l n m) = on-entry m _ (λ e few. second env n m e.value)
  act-rises shapes (Statement-F.Slice l n m i j) = on-entry m _ (λ e few. cut env n m (operation.slice i j e.value))
  act-rises shapes (Statement-F.Discard l n) = on-entry n _ (λ e few. omega arith)
  act-rises shapes (Statement-F.Show l n) = on-entry n _ (λ e few. print env (line (plain_text e.value)))
  act-rises shapes (Statement-F.Lazy l n i verb) = on-entry n _ (λ e few. see-at env shapes n i verb e.value few)
  act-rises shapes s = changing-holds (Rises env) env parts s

-- a statement that is no fork allows at most 4,194,304 copies more
pub step-rises : (env : Environment) (shapes : List Shape) (s : Layer)
    → literals s ≤ max_count → Values (λ v. count v ≤ max_count) env.names → (step env shapes s).env.allowed ≤ env.allowed + 2 ^ 22
step-rises env shapes s few small = omega (arith, act-rises (allow (literals s) env) small shapes s, few)
