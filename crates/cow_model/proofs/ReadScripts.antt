-- What the lines of a script add together: one statement a line at most, and all of them have what each line's has.
use Rattle.std.proofs.Common.{◌≡◌, ℕ, ◌+◌, ◌≤◌, List, [], ◌∷◌, length, length-append, arith, All}
use Rattle.std.specs.Prelude.{◌==◌, Result, Ok, Err, IfOk}
use Rattle.std.specs.List.{slice_split}
use Rattle.std.proofs.lemmas.List.Splits.{length-slice_split}
use Rattle.std.proofs.lemmas.List.Sums.{count_by-le-length}
use Rattle.std.proofs.lemmas.List.Elements.{All-nil}
use Rattle.std.proofs.lemmas.Result.{IfOk-at_ok, IfOk-weaker}
use Rattle.cow_model.specs.declared.fault.Flaw.{Flaw}
use Rattle.cow_model.specs.declared.fault.ParseFault.{ParseFault}
use Rattle.cow_model.specs.declared.reading.Reading.{Reading}
use Rattle.cow_model.specs.declared.reading.Standing.{Standing}
use Rattle.cow_model.specs.declared.reading.Standing.TheVariants.{Outside, InFork, InTask}
use Rattle.cow_model.specs.declared.statement.Statement.{Statement}
use Rattle.cow_model.specs.Lexis.{Text, without_empty_end, lines_of}
use Rattle.cow_model.specs.Forms.{statement_of}
use Rattle.cow_model.specs.Parse.{reading, with_line, closed, behind, script_from, script_of}
use Rattle.cow_model.proofs.ListSteps.{All-push}
use Rattle.cow_model.proofs.ReadSteps.{reads_any}
use Rattle.cow_model.proofs.ReadLines.{Adds, AddsTo, AllHave, with_line_adds}
use Rattle.cow_model.proofs.ReadLines.Adds.{none, one}

-- what behind a line follows from what the line adds
behind_if : (A : Reading → Type 0) (Q : List Statement → Type 0) (line : ℕ) (r : Result Reading Flaw) (next : Reading → Result (List Statement) ParseFault) → IfOk r A → ((x : Reading) → A x → IfOk (next x) Q) → IfOk (behind line r next) Q
behind_if A Q line (Ok r) next a q = q r a
behind_if A Q line (Err flaw) next a q = tt

-- a script has the statements that were read, where no fork is open
closed_if : (Q : List Statement → Type 0) (ss : List Statement) (at : Standing) → Q ss → IfOk (closed ss at) Q
closed_if Q ss Outside q = q
closed_if Q ss (InFork fork tasks) q = tt
closed_if Q ss (InTask fork tasks task gives) q = tt

-- what has P still has it once a line has added to it
all_added : (P : Statement → Type 0) (ss : List Statement) {more : List Statement} → Adds P ss more → All P ss → All P more
all_added P ss none all = all
all_added P ss (one {s = s} p) all = All-push P ss s all p

-- all statements of a script have P, where those read before have it
all_from : (P : Statement → Type 0) (have : AllHave P) (line : ℕ) (r : Reading) (texts : List Text) → All P r.statements → IfOk (script_from line r texts) (All P)
all_from P have line r [] all = closed_if (All P) r.statements r.standing all
all_from P have line r (text ∷ texts) all =
    behind_if (AddsTo P r) (All P) line (with_line line text r) (λ next. script_from (line + 1) next texts) (with_line_adds P have line text r) (λ next adds. all_from P have (line + 1) next texts (all_added P r.statements adds all))

-- all statements of a script have what the statements of every form have, and forks
pub all_read : (P : Statement → Type 0) (have : AllHave P) (bytes : Text) (ss : List Statement) → script_of bytes ≡ Ok ss → All P ss
unfolding script_of
all_read P have bytes ss is = IfOk-at_ok (All P) is (all_from P have 1 (reading [] Outside) (lines_of bytes) (All-nil P))

-- a line adds one statement at most
one_added : (P : Statement → Type 0) (ss : List Statement) {more : List Statement} → Adds P ss more → length more ≤ length ss + 1
one_added P ss none = omega arith
one_added P ss (one {s = s} p) = omega (arith, length-append ss (s ∷ []))

-- every statement has this
abbrev Any : Statement → Type 0
Any s = Unit {0}

-- and so has what is read
any_read : AllHave Any
any_read = record { forms = λ line form. reads_any Any (statement_of line form) (λ s. tt); forks = λ line tasks. tt }

-- as many statements as lines, and those that were read before
few_from : (line : ℕ) (r : Reading) (texts : List Text) → IfOk (script_from line r texts) (λ ss. length ss ≤ length r.statements + length texts)
few_from line r [] = closed_if (λ ss. length ss ≤ length r.statements + 0) r.statements r.standing (omega arith)
few_from line r (text ∷ texts) =
    behind_if (AddsTo Any r) (λ ss. length ss ≤ length r.statements + length (text ∷ texts)) line (with_line line text r) (λ next. script_from (line + 1) next texts)
    (with_line_adds Any any_read line text r)
    (λ next adds. IfOk-weaker (script_from (line + 1) next texts) _ _ (λ ss few. omega (arith, few, one_added Any r.statements adds)) (few_from (line + 1) next texts))

-- no more lines than parts
few_parts : (parts : List Text) → length (without_empty_end parts) ≤ length parts
few_parts [] = omega arith
few_parts ([] ∷ []) = omega arith
few_parts ([] ∷ (next ∷ parts)) = omega (arith, few_parts (next ∷ parts))
few_parts ((b ∷ bs) ∷ parts) = omega (arith, few_parts parts)

-- no more lines than bytes, and one
pub few_lines : (bytes : Text) → length (lines_of bytes) ≤ length bytes + 1
unfolding lines_of
few_lines bytes = omega (arith, few_parts (slice_split (λ b. b == 10) bytes), length-slice_split (λ b. b == 10) bytes, count_by-le-length (λ b. b == 10) bytes)

-- a script has no more statements than bytes, and one
pub few_statements : (bytes : Text) (ss : List Statement) → script_of bytes ≡ Ok ss → length ss ≤ length bytes + 1
unfolding script_of
few_statements bytes ss is = omega (arith, few_lines bytes, IfOk-at_ok (λ ss. length ss ≤ 0 + length (lines_of bytes)) is (few_from 1 (reading [] Outside) (lines_of bytes)))
