-- What the lines of a script add to its tasks: statements that have what every form's has, 16 tasks a fork at most, and few steps for the bytes.
use Rattle.std.proofs.Common.{◌≡◌, ℕ, ◌+◌, ◌≤◌, ◌<◌, ◌^◌, List, [], ◌∷◌, ◌++◌, get_or, length, length-append, arith, refl, ap, sym, subst, Bool, true, false, cond, Option, Some, None}
use Rattle.std.specs.Prelude.{◌==◌, ℤ, codes, nat_lt, nat_le, Result, Ok, Err, IfOk, All}
use Rattle.std.specs.List.{slice_split, onto_first}
use Rattle.std.proofs.lemmas.Bool.{ltb-true}
use Rattle.std.proofs.lemmas.List.Elements.{All-nil, All-cons, All-weaker}
use Rattle.std.proofs.lemmas.List.Splits.{length-slice_split}
use Rattle.std.proofs.lemmas.Result.{IfOk-at_ok, IfOk-weaker}
use Rattle.cow_model.specs.Atoms.{FitsTexts}
use Rattle.cow_model.specs.Plain.{max_count}
use Rattle.cow_model.specs.Sharing.{Layer, literals}
use Rattle.cow_model.specs.declared.fault.Flaw.{Flaw}
use Rattle.cow_model.specs.declared.fault.Flaw.TheVariants as flaw
use Rattle.cow_model.specs.declared.fault.ParseFault.{ParseFault}
use Rattle.cow_model.specs.declared.reading.Due.{Due}
use Rattle.cow_model.specs.declared.reading.Due.TheVariants.{Group}
use Rattle.cow_model.specs.declared.reading.Quoting.{Quoting}
use Rattle.cow_model.specs.declared.reading.Quoting.TheVariants.{Start}
use Rattle.cow_model.specs.declared.reading.Reading.{Reading}
use Rattle.cow_model.specs.declared.reading.Standing.{Standing}
use Rattle.cow_model.specs.declared.reading.Standing.TheVariants.{Outside, InFork, InTask}
use Rattle.cow_model.specs.declared.statement.Capture.{Capture}
use Rattle.cow_model.specs.declared.statement.Kind.{Kind}
use Rattle.cow_model.specs.declared.statement.Side.{Side}
use Rattle.cow_model.specs.declared.statement.Statement.{Statement, out-Statement}
use Rattle.cow_model.specs.declared.statement.Statement.TheOpen.{Statement-F}
use Rattle.cow_model.specs.declared.statement.Statement.TheVariants as statement
use Rattle.cow_model.specs.declared.statement.Statement.TheViews
use Rattle.cow_model.specs.declared.statement.TaskBlock.{TaskBlock}
use Rattle.cow_model.specs.declared.plain.Literal.{Literal}
use Rattle.cow_model.specs.declared.word.Form.{Form}
use Rattle.cow_model.specs.declared.word.Form.TheVariants.{Let, OnName, OnAtom, OnPlace, OnSide, OnOther, Insert, Set, Replace, Swap, Splice, Put, Merge, Lazy, Give}
use Rattle.cow_model.specs.declared.word.NameWord.{NameWord}
use Rattle.cow_model.specs.declared.word.NameWord.TheVariants.{Drop, Show, Count, Reverse, Clear, Rebase}
use Rattle.cow_model.specs.declared.word.AtomWord.{AtomWord}
use Rattle.cow_model.specs.declared.word.AtomWord.TheVariants.{Append, Prepend, Update, Remove, Get, Has, Place}
use Rattle.cow_model.specs.declared.word.PlaceWord.{PlaceWord}
use Rattle.cow_model.specs.declared.word.PlaceWord.TheVariants.{RemoveAt, At, Rotate, Reserve}
use Rattle.cow_model.specs.declared.word.SideWord.{SideWord}
use Rattle.cow_model.specs.declared.word.SideWord.TheVariants.{Pop, Peek}
use Rattle.cow_model.specs.declared.word.OtherWord.{OtherWord}
use Rattle.cow_model.specs.declared.word.OtherWord.TheVariants.{Extend, Union, Inter, Minus, SymDiff, Subset, Disjoint, Equal, Within}
use Rattle.cow_model.specs.declared.word.Word.{Word}
use Rattle.cow_model.specs.declared.word.Word.TheVariants as word
use Rattle.cow_model.specs.Lexis.{Text, is_printable, is_cut, quoting_after, with_token, tokens_from, tokens_of, without_empty_end, lines_of}
use Rattle.cow_model.specs.Words.{kind_of, preference_of, verb_of, word_of}
use Rattle.cow_model.specs.Readers.{all_atoms, all_captures, capture_of, checked, due_integer, due_name, due_token, due_word, name_of, captures_end, captures_from, no_more, or_flaw, with_capture}
use Rattle.cow_model.specs.Forms.{in_pairs, lone_name, name_atom, name_atoms, name_place, name_place_atom, name_places, name_side, name_side_atom, two_names, on_name, on_atom, on_place, on_side, on_other, splice, merge, lazy, give, insert_atom, insert_at, insert, made, sliced, assigned, is_slice, no_kind, value_by, value_of, assignment, statement_of}
use Rattle.cow_model.specs.Parse.{reading, with_statement, counted, stated_at, tasked_at, ended_at, stated, forked, tasked, ended, read_on, stands, told, is_remark, remark, with_tokens, with_line, closed, behind, script_from, script_of}
use Rattle.cow_model.proofs.LiteralsRead.{fits_texts, few_literals}
use Rattle.cow_model.proofs.ListSteps.{All-push}
use Rattle.cow_model.proofs.ReadForms.{Fits, reads_statement}
use Rattle.cow_model.proofs.ReadSteps.{Reads, and_then_if, and_then_any, either_if, reads_any, reads_either, reads_next, where_if}
use Rattle.cow_eval.specs.Statements.{IsRunnable}
use Rattle.cow_tasks.specs.Blocks.{IsBuiltAlone, IsRunnableAlone, statements_in, captures_in, tasks_in, count_tasks, count_captures, count_in, unbuilt_line, AreRunnable, IsBuilt, IsBuiltStep, IsRunnableLayer}
use Rattle.cow_tasks.proofs.Lists.{All-unpush}
use Rattle.cow_tasks.proofs.Unbuilt.{all-built}

-- ---- no form makes a fork

-- a statement has no tasks
abbrev IsPlain : Statement → Type 0
IsPlain s = tasks_in (out-Statement s) ≡ []

-- `WORD N`
plain_name : (line : ℕ) (word : NameWord) (n : Text) → IsPlain (on_name line word n)
unfolding TheViews.out-Statement denote.Hole.Carrier.out
plain_name line Drop n = refl
plain_name line Show n = refl
plain_name line Count n = refl
plain_name line Reverse n = refl
plain_name line Clear n = refl
plain_name line Rebase n = refl

-- `WORD N A`
plain_atom : (line : ℕ) (word : AtomWord) (n : Text) (a : Literal) → IsPlain (on_atom line word n a)
unfolding TheViews.out-Statement denote.Hole.Carrier.out
plain_atom line Append n a = refl
plain_atom line Prepend n a = refl
plain_atom line Update n a = refl
plain_atom line Remove n a = refl
plain_atom line Get n a = refl
plain_atom line Has n a = refl
plain_atom line Place n a = refl

-- `WORD N I`
plain_place : (line : ℕ) (word : PlaceWord) (n : Text) (i : ℤ) → IsPlain (on_place line word n i)
unfolding TheViews.out-Statement denote.Hole.Carrier.out
plain_place line RemoveAt n i = refl
plain_place line At n i = refl
plain_place line Rotate n i = refl
plain_place line Reserve n i = refl

-- `WORD N END`
plain_side : (line : ℕ) (word : SideWord) (n : Text) (side : Side) → IsPlain (on_side line word n side)
unfolding TheViews.out-Statement denote.Hole.Carrier.out
plain_side line Pop n side = refl
plain_side line Peek n side = refl

-- `WORD N M`
plain_other : (line : ℕ) (word : OtherWord) (n m : Text) → IsPlain (on_other line word n m)
unfolding TheViews.out-Statement denote.Hole.Carrier.out
plain_other line Extend n m = refl
plain_other line Union n m = refl
plain_other line Inter n m = refl
plain_other line Minus n m = refl
plain_other line SymDiff n m = refl
plain_other line Subset n m = refl
plain_other line Disjoint n m = refl
plain_other line Equal n m = refl
plain_other line Within n m = refl

-- `splice N I J A*`
plain_splice : (line : ℕ) → Reads IsPlain (splice line)
unfolding splice TheViews.out-Statement denote.Hole.Carrier.out
plain_splice line = reads_next IsPlain due_name _ (λ n. reads_next IsPlain due_integer _ (λ i. reads_next IsPlain due_integer _ (λ j. reads_next IsPlain all_atoms _ (λ atoms tokens. refl))))

-- `merge N M keep` and `merge N M take`
plain_merge : (line : ℕ) → Reads IsPlain (merge line)
unfolding merge TheViews.out-Statement denote.Hole.Carrier.out
plain_merge line = reads_next IsPlain due_name _ (λ n. reads_next IsPlain due_name _ (λ m. reads_next IsPlain (due_word preference_of) _ (λ takes. reads_next IsPlain no_more _ (λ _ tokens. refl))))

-- `lazy N I VERB`
plain_lazy : (line : ℕ) → Reads IsPlain (lazy line)
unfolding lazy TheViews.out-Statement denote.Hole.Carrier.out
plain_lazy line = reads_next IsPlain due_name _ (λ n. reads_next IsPlain due_integer _ (λ i. reads_next IsPlain (due_word verb_of) _ (λ asked. reads_next IsPlain no_more _ (λ _ tokens. refl))))

-- `give Y as Z`
plain_give : (line : ℕ) → Reads IsPlain (give line)
unfolding give TheViews.out-Statement denote.Hole.Carrier.out
plain_give line = reads_next IsPlain due_name _ (λ y. reads_next IsPlain (due_token (codes "as")) _ (λ _. reads_next IsPlain due_name _ (λ z. reads_next IsPlain no_more _ (λ _ tokens. refl))))

-- `insert N A`, and with more tokens `insert N I A`
plain_insert : (line : ℕ) → Reads IsPlain (insert line)
unfolding insert insert_atom insert_at TheViews.out-Statement denote.Hole.Carrier.out
plain_insert line tokens =
    either_if (λ x. IsPlain x.0) (nat_le 3 (length tokens)) (insert_at line tokens) (insert_atom line tokens)
    (reads_next IsPlain name_place_atom _ (λ x tokens. refl) tokens) (reads_next IsPlain name_atom _ (λ x tokens. refl) tokens)

-- what stands behind `let N =`, where the first token of it is no kind
plain_no_kind : (line : ℕ) (n token : Text) → Reads IsPlain (no_kind line n token)
unfolding no_kind sliced assigned TheViews.out-Statement denote.Hole.Carrier.out
plain_no_kind line n token = reads_either IsPlain (is_slice token) _ _ (reads_next IsPlain name_places _ (λ x tokens. refl)) (reads_next IsPlain (checked (name_of token)) _ (λ m. reads_next IsPlain no_more _ (λ _ tokens. refl)))

-- `A*` behind `let N = KIND`
plain_made : (line : ℕ) (n : Text) (k : Kind) → Reads IsPlain (made line n k)
unfolding made TheViews.out-Statement denote.Hole.Carrier.out
plain_made line n k = reads_next IsPlain all_atoms _ (λ atoms. reads_next IsPlain (checked (in_pairs k atoms)) _ (λ _ tokens. refl))

-- what stands behind `let N =`, by the kind that its first token may be
plain_value_by : (line : ℕ) (n token : Text) (k : Option Kind) → Reads IsPlain (value_by line n token k)
plain_value_by line n token (Some k) = plain_made line n k
plain_value_by line n token None = plain_no_kind line n token

-- what stands behind `let N =`
plain_value : (line : ℕ) (n : Text) → Reads IsPlain (value_of line n)
unfolding value_of
plain_value line n [] = tt
plain_value line n (token ∷ tokens) = plain_value_by line n token (kind_of token) tokens

-- `let N = KIND A*`, `let N = M`, `let N = slice M I J`
plain_assignment : (line : ℕ) → Reads IsPlain (assignment line)
unfolding assignment
plain_assignment line = reads_next IsPlain due_name _ (λ n. reads_next IsPlain (due_token (codes "=")) _ (λ _. plain_value line n))

-- the statement of every form has no tasks
plain_form : (line : ℕ) (form : Form) → Reads IsPlain (statement_of line form)
unfolding statement_of TheViews.out-Statement denote.Hole.Carrier.out
plain_form line Let = plain_assignment line
plain_form line (OnName word) = reads_next IsPlain lone_name _ (λ n tokens. plain_name line word n)
plain_form line (OnAtom word) = reads_next IsPlain name_atom _ (λ x tokens. plain_atom line word x.0 x.1)
plain_form line (OnPlace word) = reads_next IsPlain name_place _ (λ x tokens. plain_place line word x.0 x.1)
plain_form line (OnSide word) = reads_next IsPlain name_side _ (λ x tokens. plain_side line word x.0 x.1)
plain_form line (OnOther word) = reads_next IsPlain two_names _ (λ x tokens. plain_other line word x.0 x.1)
plain_form line Insert = plain_insert line
plain_form line Set = reads_next IsPlain name_place_atom _ (λ x tokens. refl)
plain_form line Replace = reads_next IsPlain name_side_atom _ (λ x tokens. refl)
plain_form line Swap = reads_next IsPlain name_places _ (λ x tokens. refl)
plain_form line Splice = plain_splice line
plain_form line Put = reads_next IsPlain name_atoms _ (λ x tokens. refl)
plain_form line Merge = plain_merge line
plain_form line Lazy = plain_lazy line
plain_form line Give = plain_give line

-- ---- steps of statements and tasks

-- the statements and captures of tasks
abbrev steps_of : List TaskBlock → ℕ
steps_of tasks = count_tasks tasks + count_captures tasks

-- how many captures all tasks of statements have
abbrev pub captures_all : List Statement → ℕ
captures_all [] = 0
captures_all (s ∷ ss) = count_captures (tasks_in (out-Statement s)) + captures_all ss

-- those of statements
abbrev steps_in : List Statement → ℕ
steps_in ss = count_in ss + captures_all ss

-- those of the open fork, which is a statement itself
abbrev steps_at : Standing → ℕ
steps_at Outside = 0
steps_at (InFork fork tasks) = 1 + steps_of tasks
steps_at (InTask fork tasks task gives) = 1 + steps_of (tasks ++ task ∷ [])

-- one task more
steps_push : (tasks : List TaskBlock) (t : TaskBlock) → steps_of (tasks ++ t ∷ []) ≡ steps_of tasks + (length (statements_in t) + captures_in t)
steps_push [] t = omega arith
steps_push (x ∷ xs) t = omega (arith, steps_push xs t)

-- one statement more
steps_one : (ss : List Statement) (s : Statement) → steps_in (ss ++ s ∷ []) ≡ steps_in ss + (1 + steps_of (tasks_in (out-Statement s)))
steps_one [] s = omega arith
steps_one (x ∷ xs) s = omega (arith, steps_one xs s)

-- ---- what holds of tasks

-- the statements of a task have P
abbrev TaskHas : (Statement → Type 0) → TaskBlock → Type 0
TaskHas P t = All P (statements_in t)

-- so have those of tasks, of which there are 16 at most
record TasksHave (P : Statement → Type 0) (tasks : List TaskBlock) : Type 0 where
  each : All (TaskHas P) tasks
  few : length tasks ≤ 16

-- and those of a statement
abbrev ForkHas : (Statement → Type 0) → Statement → Type 0
ForkHas P s = TasksHave P (tasks_in (out-Statement s))

-- and those of the open fork
abbrev OpenHas : (Statement → Type 0) → Standing → Type 0
OpenHas P Outside = Unit {0}
OpenHas P (InFork fork tasks) = TasksHave P tasks
OpenHas P (InTask fork tasks task gives) = TasksHave P (tasks ++ task ∷ [])

-- so of all that was read, which takes n steps at most
record Holds (P : Statement → Type 0) (n : ℕ) (r : Reading) : Type 0 where
  statements : All (ForkHas P) r.statements
  standing : OpenHas P r.standing
  steps : steps_in r.statements + steps_at r.standing ≤ n

-- more steps may be taken
holds_more : (P : Statement → Type 0) (n m : ℕ) (r : Reading) → n ≤ m → Holds P n r → Holds P m r
holds_more P n m r le h = let fits = h.steps in record { statements = h.statements; standing = h.standing; steps = omega (arith, fits, le) }

-- no tasks
none_have : (P : Statement → Type 0) → TasksHave P []
none_have P = record { each = All-nil (TaskHas P); few = omega arith }

-- a statement that is no fork
plain_has : (P : Statement → Type 0) (s : Statement) → IsPlain s → ForkHas P s
plain_has P s is = subst (TasksHave P) (sym is) (none_have P)

-- a fork of tasks that have P
fork_has : (P : Statement → Type 0) (line : ℕ) (tasks : List TaskBlock) → TasksHave P tasks → ForkHas P (statement.Fork line tasks)
fork_has P line tasks h = rw (statement.outs-Fork line tasks) h

-- ---- what a line adds

-- a task with one statement more has P where the statement does
task_more : (P : Statement → Type 0) (tasks : List TaskBlock) (task : TaskBlock) (s : Statement) → P s → TasksHave P (tasks ++ task ∷ []) → TasksHave P (tasks ++ with_statement task s ∷ [])
task_more P tasks task s p h =
    let both = All-unpush (TaskHas P) tasks task h.each in
    let few = h.few in
    record { each = All-push (TaskHas P) tasks (with_statement task s) both.0 (All-push P (statements_in task) s both.1 p); few = omega (arith, few, length-append tasks (task ∷ []), length-append tasks (with_statement task s ∷ [])) }

-- a statement behind the others, outside of forks
more_outside : (P : Statement → Type 0) (n : ℕ) (s : Statement) (ss : List Statement) (at : Standing) → ForkHas P s → Holds P n (reading ss at) → Holds P (n + (1 + steps_of (tasks_in (out-Statement s)))) (reading (ss ++ s ∷ []) at)
more_outside P n s ss at p h = let fits = h.steps in record { statements = All-push (ForkHas P) ss s h.statements p; standing = h.standing; steps = omega (arith, fits, steps_one ss s) }

-- a statement that is no fork
more_plain : (P : Statement → Type 0) (n : ℕ) (s : Statement) (ss : List Statement) (at : Standing) → IsPlain s → Holds P n (reading ss at) → Holds P (n + 1) (reading (ss ++ s ∷ []) at)
more_plain P n s ss at is h = subst (λ ts. Holds P (n + (1 + steps_of ts)) (reading (ss ++ s ∷ []) at)) is (more_outside P n s ss at (plain_has P s is) h)

-- a statement stands in the open task, or behind the others
holds_stated_at : (P : Statement → Type 0) (n count : ℕ) (s : Statement) (ss : List Statement) (at : Standing) → P s × IsPlain s → Holds P n (reading ss at) → Holds P (n + 1) (stated_at count s ss at)
holds_stated_at P n count s ss Outside p h = more_plain P n s ss Outside p.1 h
holds_stated_at P n count s ss (InFork fork tasks) p h = more_plain P n s ss (InFork fork tasks) p.1 h
holds_stated_at P n count s ss (InTask fork tasks task gives) p h =
    let fits = h.steps in
    record { statements = h.statements; standing = task_more P tasks task s p.0 h.standing; steps = omega (arith, fits, steps_push tasks task, steps_push tasks (with_statement task s), length-append (statements_in task) (s ∷ [])) }

-- a line that is a statement
holds_stated : (P : Statement → Type 0) (n count : ℕ) (s : Statement) (r : Reading) → P s × IsPlain s → Holds P n r → Holds P (n + 1) (stated count s r)
unfolding stated
holds_stated P n count s r p h = holds_stated_at P n count s r.statements r.standing p h

-- a line `fork`
holds_forked : (P : Statement → Type 0) (n line : ℕ) (r : Reading) → Holds P n r → Holds P (n + 1) (forked line r)
unfolding forked
holds_forked P n line r h = let fits = h.steps in record { statements = h.statements; standing = none_have P; steps = omega (arith, fits) }

-- whether one more task may come there
abbrev HasRoom : Standing → Type 0
HasRoom (InFork fork tasks) = length tasks + 1 ≤ 16
HasRoom at = Unit {0}

-- a task begins in the open fork
holds_tasked_at : (P : Statement → Type 0) (n line : ℕ) (captures : List Capture) (ss : List Statement) (at : Standing) → HasRoom at → Holds P n (reading ss at) → Holds P (n + length captures) (reading ss (tasked_at line captures at))
holds_tasked_at P n line captures ss Outside room h = holds_more P n (n + length captures) (reading ss Outside) (omega arith) h
holds_tasked_at P n line captures ss (InFork fork tasks) room h =
    let task : TaskBlock = record { line = line; captures = captures; statements = [] } in
    let fits = h.steps in
    record {
      statements = h.statements;
      standing = record { each = All-push (TaskHas P) tasks task h.standing.each (All-nil P); few = omega (arith, room, length-append tasks (task ∷ [])) };
      steps = omega (arith, fits, steps_push tasks task);
    }
holds_tasked_at P n line captures ss (InTask fork tasks task gives) room h = holds_more P n (n + length captures) (reading ss (InTask fork tasks task gives)) (omega arith) h

-- a line `task`
holds_tasked : (P : Statement → Type 0) (n line : ℕ) (captures : List Capture) (r : Reading) → HasRoom r.standing → Holds P n r → Holds P (n + length captures) (tasked line captures r)
unfolding tasked
holds_tasked P n line captures r room h = holds_tasked_at P n line captures r.statements r.standing room h

-- an end of a task, and an end of a fork
holds_ended_at : (P : Statement → Type 0) (n : ℕ) (ss : List Statement) (at : Standing) → Holds P n (reading ss at) → Holds P n (ended_at ss at)
holds_ended_at P n ss (InTask fork tasks task gives) h = record { statements = h.statements; standing = h.standing; steps = h.steps }
holds_ended_at P n ss (InFork fork tasks) h =
    let fits = h.steps in
    let s = statement.Fork fork tasks in
    record { statements = All-push (ForkHas P) ss s h.statements (fork_has P fork tasks h.standing); standing = tt; steps = omega (arith, fits, steps_one ss s, ap (λ l. steps_of (tasks_in l)) (statement.outs-Fork fork tasks)) }
holds_ended_at P n ss Outside h = h

-- a line `end`
holds_ended : (P : Statement → Type 0) (n : ℕ) (r : Reading) → Holds P n r → Holds P n (ended r)
unfolding ended
holds_ended P n r h = holds_ended_at P n r.statements r.standing h

-- ---- how many captures a line has

-- a token adds one capture at most
with_capture_most : (capture : Option Capture) (captures : List Capture) → length (with_capture capture captures) ≤ length captures + 1
with_capture_most None captures = omega arith
with_capture_most (Some capture) captures = omega arith

-- no more captures than tokens
captures_most : (due : Due) (tokens : List Text) → IfOk (captures_from due tokens) (λ captures. length captures ≤ length tokens)
unfolding captures_from
captures_most due [] = and_then_any (λ captures. length captures ≤ 0) (captures_end due) _ (λ x. omega arith)
captures_most due (token ∷ tokens) =
    and_then_any (λ captures. length captures ≤ length (token ∷ tokens)) (capture_of due token) _ (λ x.
    and_then_if (λ captures. length captures ≤ length tokens) (λ captures. length captures ≤ length (token ∷ tokens)) (captures_from x.0 tokens) _ (captures_most x.0 tokens) (λ others few.
    omega (arith, few, with_capture_most x.1 others)))

-- so behind `task`
task_most : (tokens : List Text) → IfOk (all_captures tokens) (λ x. length x.0 ≤ length tokens)
task_most tokens = and_then_if (λ captures. length captures ≤ length tokens) (λ x. length x.0 ≤ length tokens) (captures_from Group tokens) _ (captures_most Group tokens) (λ captures few. few)

-- a token has one byte at least
with_token_most : (token : Text) (tokens : List Text) → length (with_token token tokens) ≤ length token + length tokens
with_token_most [] tokens = omega arith
with_token_most (b ∷ bs) tokens = omega arith

-- no more tokens than bytes, from a byte on that may cut
tokens_step : (cut : Bool) (token : Text) (b : ℕ) (bs : Text) (others more : List Text) → length others ≤ 0 + length bs → length more ≤ length (token ++ b ∷ []) + length bs → length (cond cut (with_token token others) more) ≤ length token + length (b ∷ bs)
tokens_step true token b bs others more few most = omega (arith, few, with_token_most token others)
tokens_step false token b bs others more few most = omega (arith, most, length-append token (b ∷ []))

-- no more tokens than bytes
tokens_most : (at : Quoting) (token bytes : Text) → length (tokens_from at token bytes) ≤ length token + length bytes
tokens_most at token [] = with_token_most token []
tokens_most at token (b ∷ bs) = tokens_step (is_cut at b) token b bs (tokens_from Start [] bs) (tokens_from (quoting_after at b) (token ++ b ∷ []) bs) (tokens_most Start [] bs) (tokens_most (quoting_after at b) (token ++ b ∷ []) bs)

-- so in a line
few_tokens : (line : Text) → length (tokens_of line) ≤ length line
unfolding tokens_of
few_tokens line = omega (arith, tokens_most Start [] line)

-- ---- one line

-- another task is counted where there is room for it
counted_room : (at : Standing) → IfOk (counted word.Task at) (λ count. HasRoom at)
unfolding counted
counted_room Outside = tt
counted_room (InFork fork tasks) = where_if (λ count. length tasks + 1 ≤ 16) (nat_lt (length tasks) 16) _ _ (λ below. omega (arith, ltb-true (length tasks) 16 below)) tt
counted_room (InTask fork tasks task gives) = tt

-- there is room for what a word counts
abbrev FitsIn : Word → Standing → Type 0
FitsIn word.Task at = HasRoom at
FitsIn first at = Unit {0}

-- nothing is to be said
always_fits : {A : Type 0} (r : Result A Flaw) → IfOk r (λ x. Unit {0})
always_fits (Ok x) = tt
always_fits (Err flaw) = tt

-- whatever is counted has room
counted_fits : (first : Word) (at : Standing) → IfOk (counted first at) (λ count. FitsIn first at)
counted_fits word.Task at = counted_room at
counted_fits (word.Statement form) at = always_fits (counted (word.Statement form) at)
counted_fits word.Fork at = always_fits (counted word.Fork at)
counted_fits word.End at = always_fits (counted word.End at)

-- two things of what a reader reads
reads_both : {A : Type 0} (P Q : A → Type 0) (r : Result A Flaw) → IfOk r P → IfOk r Q → IfOk r (λ x. P x × Q x)
reads_both P Q (Ok x) p q = (p, q)
reads_both P Q (Err flaw) p q = tt

-- ---- the lines of a script

-- how many bytes lines have, a newline each among them
abbrev bytes_of : List Text → ℕ
bytes_of [] = 0
bytes_of (text ∷ texts) = (length text + 1) + bytes_of texts

-- an empty end is no more bytes
bytes_ended : (parts : List Text) → bytes_of (without_empty_end parts) ≤ bytes_of parts
bytes_ended [] = omega arith
bytes_ended ([] ∷ []) = omega arith
bytes_ended ([] ∷ (next ∷ parts)) = omega (arith, bytes_ended (next ∷ parts))
bytes_ended ((b ∷ bs) ∷ parts) = omega (arith, bytes_ended parts)

-- a byte more is a byte of the first part, or a newline
bytes_more : (cut : Bool) (b : ℕ) (bs : Text) (parts : List Text) → bytes_of parts ≤ length bs + 1 → 0 < length parts → bytes_of (cond cut ([] ∷ parts) (onto_first b parts)) ≤ length (b ∷ bs) + 1
bytes_more true b bs parts h some = omega (arith, h)
bytes_more false b bs [] h some = absurd (omega (arith, some))
bytes_more false b bs (part ∷ parts) h some = omega (arith, h)

-- parts have no more bytes than what was split, and one
bytes_split : (bytes : Text) → bytes_of (slice_split (λ b. b == 10) bytes) ≤ length bytes + 1
bytes_split [] = omega arith
bytes_split (b ∷ bs) = bytes_more (b == 10) b bs (slice_split (λ x. x == 10) bs) (bytes_split bs) (omega (arith, length-slice_split (λ x. x == 10) bs))

-- so have lines
bytes_lines : (bytes : Text) → bytes_of (lines_of bytes) ≤ length bytes + 1
unfolding lines_of
bytes_lines bytes = omega (arith, bytes_split bytes, bytes_ended (slice_split (λ b. b == 10) bytes))

-- what behind a line follows from what the line adds
behind_holds : (A : Reading → Type 0) (Q : List Statement → Type 0) (line : ℕ) (r : Result Reading Flaw) (next : Reading → Result (List Statement) ParseFault) → IfOk r A → ((x : Reading) → A x → IfOk (next x) Q) → IfOk (behind line r next) Q
behind_holds A Q line (Ok r) next a q = q r a
behind_holds A Q line (Err flaw) next a q = tt

-- a script is what was read where no fork is open
closed_holds : (P : Statement → Type 0) (n : ℕ) (ss : List Statement) (at : Standing) → Holds P n (reading ss at) → IfOk (closed ss at) (λ all. Holds P n (reading all Outside))
closed_holds P n ss Outside h = h
closed_holds P n ss (InFork fork tasks) h = tt
closed_holds P n ss (InTask fork tasks task gives) h = tt

module _ (P : Statement → Type 0) (forms : (line : ℕ) (form : Form) → Reads P (statement_of line form)) where
  -- what the tokens behind the first word add
  holds_read_on : (n line : ℕ) (first : Word) (count : ℕ) (r : Reading) (tokens : List Text) → FitsIn first r.standing → Holds P n r → IfOk (read_on line first count r tokens) (Holds P (n + (length tokens + 1)))
  unfolding read_on
  holds_read_on n line (word.Statement form) count r tokens fits h =
      and_then_if (λ x. P x.0 × IsPlain x.0) (Holds P (n + (length tokens + 1))) (statement_of line form tokens) _
      (reads_both (λ x. P x.0) (λ x. IsPlain x.0) (statement_of line form tokens) (forms line form tokens) (plain_form line form tokens))
      (λ x p. holds_more P (n + 1) (n + (length tokens + 1)) (stated count x.0 r) (omega arith) (holds_stated P n count x.0 r p h))
  holds_read_on n line word.Fork count r tokens fits h =
      and_then_any (Holds P (n + (length tokens + 1))) (no_more tokens) _ (λ x. holds_more P (n + 1) (n + (length tokens + 1)) (forked line r) (omega arith) (holds_forked P n line r h))
  holds_read_on n line word.Task count r tokens fits h =
      and_then_if (λ x. length x.0 ≤ length tokens) (Holds P (n + (length tokens + 1))) (all_captures tokens) _ (task_most tokens)
      (λ x few. holds_more P (n + length x.0) (n + (length tokens + 1)) (tasked line x.0 r) (omega (arith, few)) (holds_tasked P n line x.0 r fits h))
  holds_read_on n line word.End count r tokens fits h =
      and_then_any (Holds P (n + (length tokens + 1))) (no_more tokens) _ (λ x. holds_more P n (n + (length tokens + 1)) (ended r) (omega arith) (holds_ended P n r h))

  -- a line that isn't skipped
  holds_told : (n line : ℕ) (first : Text) (tokens : List Text) (r : Reading) → Holds P n r → IfOk (told line first tokens r) (Holds P (n + (length tokens + 1)))
  unfolding told
  holds_told n line first tokens r h =
      let Q = Holds P (n + (length tokens + 1)) in
      and_then_any Q (or_flaw flaw.BadWord (word_of first)) _ (λ word.
      and_then_any Q (stands word r.standing) _ (λ _.
      and_then_if (λ count. FitsIn word r.standing) Q (counted word r.standing) _ (counted_fits word r.standing) (λ count fits.
      holds_read_on n line word count r tokens fits h)))

  -- the tokens of a line
  holds_tokens : (n line : ℕ) (tokens : List Text) (r : Reading) → Holds P n r → IfOk (with_tokens line tokens r) (Holds P (n + length tokens))
  unfolding with_tokens
  holds_tokens n line [] r h = holds_more P n (n + 0) r (omega arith) h
  holds_tokens n line (first ∷ tokens) r h =
      either_if (Holds P (n + length (first ∷ tokens))) (is_remark first) _ _
      (and_then_any (Holds P (n + length (first ∷ tokens))) (remark line first tokens) _ (λ _. holds_more P n (n + length (first ∷ tokens)) r (omega arith) h))
      (IfOk-weaker (told line first tokens r) _ _ (λ next holds. holds_more P (n + (length tokens + 1)) (n + length (first ∷ tokens)) next (omega arith) holds) (holds_told n line first tokens r h))

  -- a line takes no more steps than it has bytes, its end among them
  holds_line : (n line : ℕ) (text : Text) (r : Reading) → Holds P n r → IfOk (with_line line text r) (Holds P (n + (length text + 1)))
  unfolding with_line
  holds_line n line text r h =
      either_if (Holds P (n + (length text + 1))) (is_printable text) _ _
      (IfOk-weaker (with_tokens line (tokens_of text) r) _ _ (λ next holds. holds_more P (n + length (tokens_of text)) (n + (length text + 1)) next (omega (arith, few_tokens text)) holds) (holds_tokens n line (tokens_of text) r h))
      tt

  -- lines behind what was read
  holds_from : (n line : ℕ) (r : Reading) (texts : List Text) → Holds P n r → IfOk (script_from line r texts) (λ ss. Holds P (n + bytes_of texts) (reading ss Outside))
  holds_from n line r [] h = closed_holds P (n + 0) r.statements r.standing (holds_more P n (n + 0) r (omega arith) h)
  holds_from n line r (text ∷ texts) h =
      behind_holds (Holds P (n + (length text + 1))) (λ ss. Holds P (n + bytes_of (text ∷ texts)) (reading ss Outside)) line (with_line line text r) _ (holds_line n line text r h) (λ next holds.
      IfOk-weaker (script_from (line + 1) next texts) _ _
      (λ ss all. holds_more P ((n + (length text + 1)) + bytes_of texts) (n + bytes_of (text ∷ texts)) (reading ss Outside) (omega arith) all)
      (holds_from (n + (length text + 1)) (line + 1) next texts holds))

  -- all of a script
  holds_script : (bytes : Text) (ss : List Statement) → script_of bytes ≡ Ok ss → Holds P (length bytes + 1) (reading ss Outside)
  unfolding script_of
  holds_script bytes ss is =
      let start : Holds P 0 (reading [] Outside) = record { statements = All-nil (ForkHas P); standing = tt; steps = omega arith } in
      holds_more P (0 + bytes_of (lines_of bytes)) (length bytes + 1) (reading ss Outside) (omega (arith, bytes_lines bytes))
      (IfOk-at_ok (λ all. Holds P (0 + bytes_of (lines_of bytes)) (reading all Outside)) is (holds_from 0 1 (reading [] Outside) (lines_of bytes) start))

  -- the statements of all tasks of a script have what the statements of every form have
  pub tasks_have : (bytes : Text) (ss : List Statement) → script_of bytes ≡ Ok ss → All (λ s. All (λ t. All P (statements_in t)) (tasks_in (out-Statement s))) ss
  tasks_have bytes ss is = λ k d h. ((holds_script bytes ss is).statements k d h).each

-- every statement has this
abbrev Any : Statement → Type 0
Any s = Unit {0}

-- and so has what is read
any_form : (line : ℕ) (form : Form) → Reads Any (statement_of line form)
any_form line form = reads_any Any (statement_of line form) (λ s. tt)

-- no fork of a script has more than 16 tasks
pub few_tasks : (bytes : Text) (ss : List Statement) → script_of bytes ≡ Ok ss → All (λ s. length (tasks_in (out-Statement s)) ≤ 16) ss
few_tasks bytes ss is = λ k d h. ((holds_script Any any_form bytes ss is).statements k d h).few

-- a script has no more statements and captures together, those of tasks among them, than bytes, and one
pub few_steps : (bytes : Text) (ss : List Statement) → script_of bytes ≡ Ok ss → count_in ss + captures_all ss ≤ length bytes + 1
few_steps bytes ss is = let fits = (holds_script Any any_form bytes ss is).steps in omega (arith, fits)

-- ---- what may be run

-- a built statement that fits
runnable_one : (s : Statement) → IsBuiltStep s → Fits s → IsRunnable (out-Statement s)
runnable_one s built fits = record { built = built; texts = fits.texts; few = fits.few }

-- built statements that fit
runnable_all : (ss : List Statement) → All IsBuiltStep ss → All Fits ss → All (λ s. IsRunnable (out-Statement s)) ss
runnable_all ss built fits = λ k d h. runnable_one (get_or ss k d) (built k d h) (fits k d h)

-- no fork has more captures than all have
each_most : (ss : List Statement) → All (λ s. count_captures (tasks_in (out-Statement s)) ≤ captures_all ss) ss
each_most [] = All-nil (λ s. count_captures (tasks_in (out-Statement s)) ≤ 0)
each_most (s ∷ ss) =
    All-cons (λ x. count_captures (tasks_in (out-Statement x)) ≤ captures_all (s ∷ ss)) s ss (omega arith)
    (All-weaker (λ x. count_captures (tasks_in (out-Statement x)) ≤ captures_all ss) (λ x. count_captures (tasks_in (out-Statement x)) ≤ captures_all (s ∷ ss)) (λ x most. omega (arith, most)) ss (each_most ss))

-- a script of at most 1,048,576 bytes has no more than 2,097,152 statements, those of tasks among them
pub few_in : (bytes : Text) (ss : List Statement) → script_of bytes ≡ Ok ss → length bytes ≤ 1048576 → count_in ss ≤ 2 ^ 21
few_in bytes ss is small = omega (arith, small, few_steps bytes ss is)

-- nor has a fork of it more captures
few_captures : (bytes : Text) (ss : List Statement) → script_of bytes ≡ Ok ss → length bytes ≤ 1048576 → All (λ s. count_captures (tasks_in (out-Statement s)) ≤ 2 ^ 21) ss
few_captures bytes ss is small = λ k d h. omega (arith, small, few_steps bytes ss is, each_most ss k d h)

-- tasks of a script can be run where they are built
runnable_tasks : (bytes : Text) (ss : List Statement) → script_of bytes ≡ Ok ss → length bytes ≤ 1048576 → All IsBuilt ss → All (λ s. AreRunnable (tasks_in (out-Statement s))) ss
runnable_tasks bytes ss is small built = λ k d h.
    let tasks = tasks_in (out-Statement (get_or ss k d)) in
    let fits = tasks_have Fits reads_statement bytes ss is k d h in
    record {
      statements = λ i t within. runnable_all (statements_in (get_or tasks i t)) ((built k d h).1 i t within) (fits i t within);
      few = few_tasks bytes ss is k d h;
      captures = few_captures bytes ss is small k d h;
    }

-- a statement of the main block
runnable_alone : (s : Layer) → IsBuiltAlone s → FitsTexts s → literals s ≤ max_count → IsRunnableAlone s
runnable_alone (Statement-F.Lazy l n i asked) built texts few = _
runnable_alone s built texts few = record { built = built; texts = texts; few = few }

-- where no line is told as not built, all statements of a script of at most 1,048,576 bytes can be run
pub is_runnable : (bytes : Text) (ss : List Statement) → script_of bytes ≡ Ok ss → length bytes ≤ 1048576 → unbuilt_line ss ≡ None → All (λ s. IsRunnableLayer (out-Statement s)) ss
is_runnable bytes ss is small none =
    let built = all-built ss none in
    λ k d h. record {
      itself = runnable_alone (out-Statement (get_or ss k d)) (built k d h).0 (fits_texts bytes ss is k d h) (few_literals bytes ss is k d h);
      tasks = runnable_tasks bytes ss is small built k d h;
    }
