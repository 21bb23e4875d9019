-- What a line of a script adds to the statements outside of forks: one at most, and what a line reads has a property.
use Rattle.std.proofs.Common.{ℕ, List, [], ◌∷◌, ◌++◌}
use Rattle.std.specs.Prelude.{Ok, IfOk}
use Rattle.cow_model.specs.declared.reading.Reading.{Reading}
use Rattle.cow_model.specs.declared.reading.Standing.{Standing}
use Rattle.cow_model.specs.declared.reading.Standing.TheVariants.{Outside, InFork, InTask}
use Rattle.cow_model.specs.declared.statement.Statement.{Statement}
use Rattle.cow_model.specs.declared.statement.Statement.TheVariants as statement
use Rattle.cow_model.specs.declared.statement.TaskBlock.{TaskBlock}
use Rattle.cow_model.specs.declared.word.Form.{Form}
use Rattle.cow_model.specs.declared.word.Word.{Word}
use Rattle.cow_model.specs.declared.word.Word.TheVariants as word
use Rattle.cow_model.specs.Lexis.{Text, is_printable, tokens_of}
use Rattle.cow_model.specs.Readers.{no_more, all_captures}
use Rattle.cow_model.specs.Forms.{statement_of}
use Rattle.cow_model.specs.Parse.{stated_at, ended_at, stated, forked, tasked, ended, read_on, told, is_remark, remark, with_tokens, with_line}
use Rattle.cow_model.proofs.ReadSteps.{Reads, and_then_if, and_then_any, either_if}

-- the statements stay, or one more that has P stands behind them
pub data Adds (P : Statement → Type 0) (ss : List Statement) : List Statement → Type 0 where
  none : Adds P ss ss
  one : {s : Statement} → P s → Adds P ss (ss ++ s ∷ [])

-- a line adds so to what was read
abbrev pub AddsTo : (Statement → Type 0) → Reading → Reading → Type 0
AddsTo P r next = Adds P r.statements next.statements

-- the statements of every form have P, and forks too
pub record AllHave (P : Statement → Type 0) : Type 0 where
  pub forms : (line : ℕ) (form : Form) → Reads P (statement_of line form)
  pub forks : (line : ℕ) (tasks : List TaskBlock) → P (statement.Fork line tasks)

-- a statement stands in the open task, or behind the others
stated_at_adds : (P : Statement → Type 0) (count : ℕ) (s : Statement) (ss : List Statement) (at : Standing) → P s → Adds P ss (stated_at count s ss at).statements
stated_at_adds P count s ss Outside p = one p
stated_at_adds P count s ss (InFork fork tasks) p = one p
stated_at_adds P count s ss (InTask fork tasks task gives) p = none

-- a line that is a statement
stated_adds : (P : Statement → Type 0) (count : ℕ) (s : Statement) (r : Reading) → P s → AddsTo P r (stated count s r)
unfolding stated
stated_adds P count s r p = stated_at_adds P count s r.statements r.standing p

-- an end of a task adds nothing, an end of a fork the fork
ended_at_adds : (P : Statement → Type 0) (all : AllHave P) (ss : List Statement) (at : Standing) → Adds P ss (ended_at ss at).statements
ended_at_adds P all ss (InTask fork tasks task gives) = none
ended_at_adds P all ss (InFork fork tasks) = one (all.forks fork tasks)
ended_at_adds P all ss Outside = none

-- a line `end`
ended_adds : (P : Statement → Type 0) (all : AllHave P) (r : Reading) → AddsTo P r (ended r)
unfolding ended
ended_adds P all r = ended_at_adds P all r.statements r.standing

-- what the tokens behind the first word add
read_on_adds : (P : Statement → Type 0) (all : AllHave P) (line : ℕ) (first : Word) (count : ℕ) (r : Reading) (tokens : List Text) → IfOk (read_on line first count r tokens) (AddsTo P r)
unfolding read_on forked tasked
read_on_adds P all line (word.Statement form) count r tokens =
    and_then_if (λ x. P x.0) (AddsTo P r) (statement_of line form tokens) (λ x. Ok (stated count x.0 r)) (all.forms line form tokens) (λ x h. stated_adds P count x.0 r h)
read_on_adds P all line word.Fork count r tokens = and_then_any (AddsTo P r) (no_more tokens) (λ x. Ok (forked line r)) (λ x. none)
read_on_adds P all line word.Task count r tokens = and_then_any (AddsTo P r) (all_captures tokens) (λ x. Ok (tasked line x.0 r)) (λ x. none)
read_on_adds P all line word.End count r tokens = and_then_any (AddsTo P r) (no_more tokens) (λ x. Ok (ended r)) (λ x. ended_adds P all r)

-- a line that isn't skipped
told_adds : (P : Statement → Type 0) (all : AllHave P) (line : ℕ) (first : Text) (tokens : List Text) (r : Reading) → IfOk (told line first tokens r) (AddsTo P r)
unfolding told
told_adds P all line first tokens r = search (and_then_any, read_on_adds)

-- the tokens of a line
with_tokens_adds : (P : Statement → Type 0) (all : AllHave P) (line : ℕ) (tokens : List Text) (r : Reading) → IfOk (with_tokens line tokens r) (AddsTo P r)
unfolding with_tokens
with_tokens_adds P all line [] r = none
with_tokens_adds P all line (first ∷ tokens) r =
    either_if (AddsTo P r) (is_remark first) _ _ (and_then_any (AddsTo P r) (remark line first tokens) _ (λ _. none)) (told_adds P all line first tokens r)

-- a line adds one statement at most, and one that has P
pub with_line_adds : (P : Statement → Type 0) (all : AllHave P) (line : ℕ) (text : Text) (r : Reading) → IfOk (with_line line text r) (AddsTo P r)
unfolding with_line
with_line_adds P all line text r = either_if (AddsTo P r) (is_printable text) _ _ (with_tokens_adds P all line (tokens_of text) r) tt
