-- What a statement does to an environment, and what it prints. Forks, and what only tasks do, are in Fork.
use Rattle.std.specs.Prelude.{ℕ, ℤ, ◌+◌, ◌-◌, Bool, true, false, not, ◌&&◌, nat_lt, List, [], length, slice_get, Option, Some, None, Ok, Err, if◌then◌else◌}
use Rattle.std.specs.Str.{bytes_eq}
use Rattle.std.specs.Fmt.{decimal}
use Rattle.cow_model.specs.Lexis.{Text}
use Rattle.cow_model.specs.Printed.{line, atom_text, list_text, plain_text, nil_or, refusal}
use Rattle.cow_model.specs.Operation as operation
use Rattle.cow_model.specs.Operation.{Answer, index}
use Rattle.cow_model.specs.Changes.{changed_name, changed_names, asked_name, asked_names, query_of, query_both_of}
use Rattle.cow_model.specs.Query.{Told}
use Rattle.cow_model.specs.Env.{entry_of, has_place, given, without, settled, shared, renamed, allow}
use Rattle.cow_model.specs.Sharing.{Layer, literals, both_cost}
use Rattle.cow_model.specs.Lazy.{view}
use Rattle.cow_model.specs.Turns.{Turn, turn_of, turn_by_of, added_of, alone_after}
use Rattle.cow_model.specs.declared.plain.Literal.{Literal}
use Rattle.cow_model.specs.declared.value.Plain.{Plain}
use Rattle.cow_model.specs.declared.value.Plain.TheVariants.{Array}
use Rattle.cow_model.specs.declared.shape.Shape.{Shape}
use Rattle.cow_model.specs.declared.statement.Verb.{Verb}
use Rattle.cow_model.specs.declared.statement.Verb.TheVariants as verb
use Rattle.cow_model.specs.declared.statement.Statement.TheOpen.{Statement-F}
use Rattle.cow_model.specs.declared.refusal.Refusal.{Refusal}
use Rattle.cow_model.specs.declared.refusal.Refusal.TheVariants.{NoName, WrongKind, NoRule, Full, TextFull}
use Rattle.cow_model.specs.declared.outcome.Entry.{Entry}
use Rattle.cow_model.specs.declared.outcome.Environment.{Environment}
use Rattle.cow_model.specs.declared.outcome.Outcome.{Outcome}

-- a statement that is refused changes nothing
abbrev pub refused : Environment → Refusal → Outcome
refused env why = record { env = env; text = refusal why }

-- the names change, and nothing is printed
abbrev pub quiet : Environment → Outcome
quiet env = record { env = env; text = [] }

-- what a statement does with the entry of a name, which has to be there
abbrev pub with_found : Environment → Option Entry → (Entry → Outcome) → Outcome
with_found env None run = refused env NoName
with_found env (Some e) run = run e

-- and with the entry of that name among the others
abbrev pub with_entry : Environment → Text → (Entry → Outcome) → Outcome
with_entry env name run = with_found env (entry_of name env.names) run

-- a name stands for a value
abbrev pub gives : Text → Plain → Bool → Environment → Environment
gives name value alone env = renamed (given (record { name = name; value = value; alone = alone }) env.names) env

-- a name's value isn't alone any longer
abbrev pub settles : Text → Environment → Environment
settles name env = renamed (settled name env.names) env

-- `let N = KIND A*`
abbrev pub let_in : Environment → Text → Plain → Outcome
let_in env name value = if has_place name env.names then quiet (gives name value true env) else refused env Full

-- a second value made of M's: neither is alone
abbrev pub second_in : Environment → Text → Text → Plain → Outcome
second_in env name other value = if has_place name env.names then quiet (gives name value false (settles other env)) else refused env Full

-- `let N = M`
abbrev pub assign_in : Environment → Text → Text → Outcome
assign_in env name other = with_entry env other (λ e. second_in env name other e.value)

-- a slice, where it isn't refused
abbrev pub sliced : Environment → Text → Text → Answer → Outcome
sliced env name other (Err why) = refused env why
sliced env name other (Ok done) = second_in env name other done.value

-- `let N = slice M I J`
abbrev pub slice_in : Environment → Text → Text → ℤ → ℤ → Outcome
slice_in env name other i j = with_entry env other (λ e. sliced env name other (operation.slice i j e.value))

-- `drop N`
abbrev pub discard_in : Environment → Text → Outcome
discard_in env name = with_entry env name (λ e. quiet (renamed (without name env.names) env))

-- a line that uses room
abbrev pub print_in : Environment → Text → Outcome
print_in env text =
    if nat_lt env.room (length text) then refused env TextFull
    else record { env = record env { room = env.room - length text }; text = text }

-- `show N`
abbrev pub show_in : Environment → Text → Outcome
show_in env name = with_entry env name (λ e. print_in env (line (plain_text e.value)))

-- a line that was told, or the refusal
abbrev pub told : Environment → Told → Outcome
told env (Err why) = refused env why
told env (Ok text) = record { env = env; text = line text }

-- a statement that reads one value
abbrev pub ask : Environment → Text → (Plain → Told) → Outcome
ask env name tell = with_entry env name (λ e. told env (tell e.value))

-- what two values told: one name for both isn't alone afterwards
abbrev pub told_both : Environment → Text → Text → Told → Outcome
told_both env name other (Err why) = refused env why
told_both env name other (Ok text) = record { env = if bytes_eq name other then settles name env else env; text = line text }

-- a statement that reads two values
abbrev pub ask_both : Environment → Text → Text → (Plain → Plain → Told) → Outcome
ask_both env name other tell = with_entry env name (λ e. with_entry env other (λ f. told_both env name other (tell e.value f.value)))

-- a name's value becomes another, so many copies are allowed, and `alone` tells its flag
abbrev pub becomes : Environment → Text → ℕ → (Plain → Bool) → Answer → Outcome
becomes env name n alone (Err why) = refused env why
becomes env name n alone (Ok done) = record { env = allow n (gives name done.value (alone done.value) env); text = done.reply }

-- a row of the table, done to a name
abbrev pub turned : Environment → Text → Turn → Outcome
turned env name t = with_entry env name (λ e. becomes env name (t.cost e.alone e.value) (alone_after t e.alone e.value) (t.run e.value))

-- N as a change by M takes it: not alone where it is M itself
abbrev pub as_changed : Text → Text → Entry → Entry
as_changed name other e = if bytes_eq name other then shared e else e

-- the row of a change by another value, done to two names: one name for both isn't alone, before and after
abbrev pub turned_by : Environment → Text → Text → Layer → Outcome
turned_by env name other s =
    with_entry env name (λ e. with_entry env other (λ f.
    becomes env name (both_cost (as_changed name other e) + added_of s f.value)
    (λ value. not (bytes_eq name other) && alone_after (turn_by_of s f.value) e.alone e.value value)
    ((turn_by_of s f.value).run e.value)))

-- a lazy statement leaves its array not alone, and allows so many copies
abbrev pub looked : Environment → Text → ℕ → Environment
looked env name n = allow n (settles name env)

-- `lazy N I first`, `show` or `count`, of these atoms
abbrev pub view_in : Environment → Text → List Literal → List Literal → Verb → Outcome
view_in env name items seen verb.First = record { env = looked env name 1; text = line (nil_or atom_text (slice_get seen 0)) }
view_in env name items seen verb.Show = print_in (looked env name (length items)) (line (list_text seen))
view_in env name items seen verb.Count = record { env = looked env name 0; text = line (decimal (length seen)) }

-- the rule of a lazy statement
abbrev pub shape_of : List Shape → Option ℕ → Option Shape
shape_of shapes None = None
shape_of shapes (Some i) = slice_get shapes i

-- a lazy statement through a rule, which has to be there
abbrev pub through : Environment → Text → Verb → List Literal → Option Shape → Outcome
through env name verb items None = refused env NoRule
through env name verb items (Some shape) = view_in env name items (view shape items) verb

-- a lazy statement on an array
abbrev pub lazy_at : Environment → List Shape → Text → ℤ → Verb → Plain → Outcome
lazy_at env shapes name i verb (Array items) = through env name verb items (shape_of shapes (index 0 (length shapes) i))
lazy_at env shapes name i verb value = refused env WrongKind

-- `lazy N I VERB`
abbrev pub lazy_in : Environment → List Shape → Text → ℤ → Verb → Outcome
lazy_in env shapes name i verb = with_entry env name (λ e. lazy_at env shapes name i verb e.value)

-- what a statement that reads two values does; any other does nothing
abbrev pub asking_both : Environment → Layer → Option (Text × Text) → Outcome
asking_both env s (Some (n, m)) = ask_both env n m (query_both_of s)
asking_both env s None = quiet env

-- what one that reads one value does; any other is left to the above
abbrev pub asking_one : Environment → Layer → Option Text → Outcome
asking_one env s (Some n) = ask env n (query_of s)
asking_one env s None = asking_both env s (asked_names s)

-- what a statement that reads values does
abbrev pub asking : Environment → Layer → Outcome
asking env s = asking_one env s (asked_name s)

-- what one that changes a value by another does; any other is left to those that read
abbrev pub changing_two : Environment → Layer → Option (Text × Text) → Outcome
changing_two env s (Some (n, m)) = turned_by env n m s
changing_two env s None = asking env s

-- what a statement that changes a value by another does, or reads
abbrev pub changing_by : Environment → Layer → Outcome
changing_by env s = changing_two env s (changed_names s)

-- what one that changes one value does; any other is left to the above
abbrev pub changing_one : Environment → Layer → Option Text → Outcome
changing_one env s (Some n) = turned env n (turn_of s)
changing_one env s None = changing_by env s

-- what a statement that changes values does, or reads
abbrev pub changing : Environment → Layer → Outcome
changing env s = changing_one env s (changed_name s)

-- what a statement does once its literals are allowed
abbrev pub act : Environment → List Shape → Layer → Outcome
act env shapes (Statement-F.Let l n kind atoms) = let_in env n (operation.made kind atoms)
act env shapes (Statement-F.Assign l n m) = assign_in env n m
act env shapes (Statement-F.Slice l n m i j) = slice_in env n m i j
act env shapes (Statement-F.Discard l n) = discard_in env n
act env shapes (Statement-F.Show l n) = show_in env n
act env shapes (Statement-F.Lazy l n i verb) = lazy_in env shapes n i verb
act env shapes s = changing env s

-- a statement that is no fork and no give
abbrev pub step : Environment → List Shape → Layer → Outcome
step env shapes s = act (allow (literals s) env) shapes s
