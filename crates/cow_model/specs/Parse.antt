-- What the bytes of a script say: its statements, or the fault of its first faulty line.
use Rattle.std.specs.Prelude.{ℕ, ◌+◌, Bool, true, false, not, nat_lt, List, [], ◌∷◌, ◌++◌, length, codes, ◌==◌, Result, Ok, Err, if◌then◌else◌}
use Rattle.std.specs.Str.{bytes_eq}
use Rattle.cow_model.specs.declared.fault.Flaw.{Flaw}
use Rattle.cow_model.specs.declared.fault.Flaw.TheVariants as flaw
use Rattle.cow_model.specs.declared.fault.ParseFault.{ParseFault}
use Rattle.cow_model.specs.declared.fault.ParseFault.TheVariants as fault
use Rattle.cow_model.specs.declared.reading.Reading.{Reading}
use Rattle.cow_model.specs.declared.reading.Standing.{Standing}
use Rattle.cow_model.specs.declared.reading.Standing.TheVariants.{Outside, InFork, InTask}
use Rattle.cow_model.specs.declared.statement.Capture.{Capture}
use Rattle.cow_model.specs.declared.statement.Statement.{Statement}
use Rattle.cow_model.specs.declared.statement.Statement.TheVariants as statement
use Rattle.cow_model.specs.declared.statement.TaskBlock.{TaskBlock}
use Rattle.cow_model.specs.declared.word.Form.{Form}
use Rattle.cow_model.specs.declared.word.Form.TheVariants as form
use Rattle.cow_model.specs.declared.word.Word.{Word}
use Rattle.cow_model.specs.declared.word.Word.TheVariants as word
use Rattle.cow_model.specs.Lexis.{Text, lines_of, is_printable, tokens_of}
use Rattle.cow_model.specs.Words.{word_of}
use Rattle.cow_model.specs.Readers.{and_then, ◌>>◌, due_token, no_more, all_captures, or_flaw}
use Rattle.cow_model.specs.Forms.{statement_of}

-- ---- where a line may stand

-- no fork is open
abbrev pub is_outside : Standing → Bool
is_outside Outside = true
is_outside _ = false

-- a fork is open, and no task of it
abbrev pub is_in_fork : Standing → Bool
is_in_fork (InFork fork tasks) = true
is_in_fork _ = false

-- a task is open
abbrev pub is_in_task : Standing → Bool
is_in_task (InTask fork tasks task gives) = true
is_in_task _ = false

-- whether a statement of this form may stand there: none in a fork outside its tasks, `lazy` outside of forks alone, `give` in a task alone
abbrev pub statement_may_stand : Form → Standing → Bool
statement_may_stand form.Lazy at = is_outside at
statement_may_stand form.Give at = is_in_task at
statement_may_stand _ at = not (is_in_fork at)

-- whether a line of this first word may stand there
abbrev pub may_stand : Word → Standing → Bool
may_stand (word.Statement form) at = statement_may_stand form at
may_stand word.Fork at = is_outside at
may_stand word.Task at = is_in_fork at
may_stand word.End at = not (is_outside at)

-- the line stands where it may
unfoldable pub stands : Word → Standing → Result (Unit {0}) Flaw
stands first at = if may_stand first at then Ok tt else Err flaw.ForkShape

-- ---- how many there may be

-- one more than n; the first number over the bound is one more than that
abbrev pub one_more : ℕ → ℕ → Result ℕ Flaw
one_more n bound = if nat_lt n bound then Ok (n + 1) else Err (flaw.Limit (bound + 1) bound)

-- how many tasks of the fork, or statements `give` of the task, there are with this line: at most 16 and 64
unfoldable pub counted : Word → Standing → Result ℕ Flaw
counted word.Task (InFork fork tasks) = one_more (length tasks) 16
counted (word.Statement form.Give) (InTask fork tasks task gives) = one_more gives 64
counted _ (InTask fork tasks task gives) = Ok gives
counted _ _ = Ok 0

-- ---- what a line adds

-- a task with one more statement
abbrev pub with_statement : TaskBlock → Statement → TaskBlock
with_statement task s = record task { statements = task.statements ++ s ∷ [] }

-- the statements outside of forks, and what is open
abbrev pub reading : List Statement → Standing → Reading
reading statements at = record { statements = statements; standing = at }

-- a statement stands in the open task, which then has so many statements `give`, or else in the script itself
abbrev pub stated_at : ℕ → Statement → List Statement → Standing → Reading
stated_at count s statements (InTask fork tasks task gives) = reading statements (InTask fork tasks (with_statement task s) count)
stated_at count s statements at = reading (statements ++ s ∷ []) at

-- a line that is a statement
unfoldable pub stated : ℕ → Statement → Reading → Reading
stated count s r = stated_at count s r.statements r.standing

-- a line `fork`
unfoldable pub forked : ℕ → Reading → Reading
forked line r = reading r.statements (InFork line [])

-- a task of the open fork begins
abbrev pub tasked_at : ℕ → List Capture → Standing → Standing
tasked_at line captures (InFork fork tasks) = InTask fork tasks (record { line = line; captures = captures; statements = [] }) 0
tasked_at line captures at = at

-- a line `task`
unfoldable pub tasked : ℕ → List Capture → Reading → Reading
tasked line captures r = reading r.statements (tasked_at line captures r.standing)

-- the innermost open task or fork ends
abbrev pub ended_at : List Statement → Standing → Reading
ended_at statements (InTask fork tasks task gives) = reading statements (InFork fork (tasks ++ task ∷ []))
ended_at statements (InFork fork tasks) = reading (statements ++ statement.Fork fork tasks ∷ []) Outside
ended_at statements Outside = reading statements Outside

-- a line `end`
unfoldable pub ended : Reading → Reading
ended r = ended_at r.statements r.standing

-- ---- one line

-- what the tokens behind the first word add
unfoldable pub read_on : ℕ → Word → ℕ → Reading → List Text → Result Reading Flaw
read_on line (word.Statement form) count r tokens = and_then (statement_of line form tokens) (λ x. Ok (stated count x.0 r))
read_on line word.Fork count r tokens = and_then (no_more tokens) (λ x. Ok (forked line r))
read_on line word.Task count r tokens = and_then (all_captures tokens) (λ x. Ok (tasked line x.0 r))
read_on line word.End count r tokens = and_then (no_more tokens) (λ x. Ok (ended r))

-- a line that isn't skipped: its first word, where it stands, how many there are, and its other tokens
unfoldable pub told : ℕ → Text → List Text → Reading → Result Reading Flaw
told line first tokens r =
    and_then (or_flaw flaw.BadWord (word_of first)) (λ word.
    and_then (stands word r.standing) (λ _.
    and_then (counted word r.standing) (λ count. read_on line word count r tokens)))

-- whether a token is `#cow`
abbrev pub is_heading : Text → Bool
is_heading token = bytes_eq token (codes "#cow")

-- a line that begins with `#`: `#cow 1` as the first line, or a comment
unfoldable pub remark : ℕ → Text → List Text → Result (Unit {0}) Flaw
remark line first tokens =
    if not (is_heading first) then Ok tt
    else if not (line == 1) then Err flaw.BadWord
    else and_then ((due_token (codes "1") >> no_more) tokens) (λ _. Ok tt)

-- whether a token begins with `#`
abbrev pub is_remark : Text → Bool
is_remark [] = false
is_remark (b ∷ bs) = b == 35

-- what the tokens of a line add; a line without tokens adds nothing
unfoldable pub with_tokens : ℕ → List Text → Reading → Result Reading Flaw
with_tokens line [] r = Ok r
with_tokens line (first ∷ tokens) r =
    if is_remark first then and_then (remark line first tokens) (λ _. Ok r)
    else told line first tokens r

-- what a line adds, or its first flaw: its bytes, and then its tokens
unfoldable pub with_line : ℕ → Text → Reading → Result Reading Flaw
with_line line text r = if is_printable text then with_tokens line (tokens_of text) r else Err flaw.BadWord

-- ---- the script

-- a flaw of this line
abbrev pub fault_at : ℕ → Flaw → ParseFault
fault_at line flaw.BadWord = fault.BadWord line
fault_at line flaw.BadAtom = fault.BadAtom line
fault_at line flaw.BadName = fault.BadName line
fault_at line flaw.ForkShape = fault.ForkShape line
fault_at line (flaw.Limit quantity bound) = fault.Limit line quantity bound

-- no line is faulty: a script, unless a fork has no end
abbrev pub closed : List Statement → Standing → Result (List Statement) ParseFault
closed statements Outside = Ok statements
closed statements (InFork fork tasks) = Err (fault.ForkShape fork)
closed statements (InTask fork tasks task gives) = Err (fault.ForkShape fork)

-- goes on behind a line, or stops at its flaw
abbrev pub behind : ℕ → Result Reading Flaw → (Reading → Result (List Statement) ParseFault) → Result (List Statement) ParseFault
behind line (Ok r) next = next r
behind line (Err flaw) next = Err (fault_at line flaw)

-- what the lines say behind what was read, of which the first has this number
abbrev pub script_from : ℕ → Reading → List Text → Result (List Statement) ParseFault
script_from line r [] = closed r.statements r.standing
script_from line r (text ∷ texts) = behind line (with_line line text r) (λ next. script_from (line + 1) next texts)

-- the statements of a script, or the fault of its first faulty line
unfoldable pub script_of : Text → Result (List Statement) ParseFault
script_of bytes = script_from 1 (reading [] Outside) (lines_of bytes)
