-- A script, line by line.
use Rattle.std.proofs.Common.{◌≡◌, ℕ, zero, suc, ◌+◌, List, [], ◌∷◌, refl, ap, sym, ◌∙◌, arith}
use Rattle.std.specs.Prelude.{Result, Ok, Err}
use Rattle.cow_model.specs.declared.fault.Flaw.{Flaw}
use Rattle.cow_model.specs.declared.fault.ParseFault.{ParseFault}
use Rattle.cow_model.specs.declared.reading.Reading.{Reading}
use Rattle.cow_model.specs.declared.reading.Standing.TheVariants.{Outside}
use Rattle.cow_model.specs.declared.statement.Statement.{Statement}
use Rattle.cow_model.specs.Lexis.{Text, lines_of, tokens_of}
use Rattle.cow_model.specs.Parse.{reading, with_line, with_tokens, closed, behind, script_from, script_of}
use Rattle.cow_lexis.specs.Cuts.{AreEmpty, with_empty}
use Rattle.cow_lexis.specs.Reads.{Fails}
use Rattle.cow_lexis.specs.declared.stop.Stop.{Stop}
use Rattle.cow_lexis.specs.declared.stop.Stop.TheVariants as stop
use Rattle.cow_script.specs.Reads.{Stops, stop_at}

-- what was read so far, and the lines to come, are the whole script
pub record ReadSoFar (r : Reading) (line : ℕ) (rest : Text) (said : Result (List Statement) ParseFault) : Type 0 where
  pub script : said ≡ script_from (line + 1) r (lines_of rest)

-- nothing was read yet
pub read_start : (bytes : Text) → ReadSoFar (reading [] Outside) 0 bytes (script_of bytes)
unfolding script_of
read_start bytes = record { script = refl }

-- empty lines say nothing
empty_line : (line : ℕ) (r : Reading) → with_line line [] r ≡ Ok r
unfolding with_line with_tokens tokens_of
empty_line line r = refl

empty_lines : (n line : ℕ) (r : Reading) (lines : List Text) → script_from line r (with_empty n lines) ≡ script_from (line + n) r lines
empty_lines zero line r lines = ap (λ k. script_from k r lines) (let same : line ≡ line + 0 = omega arith in same)
empty_lines (suc n) line r lines =
    let count : line + 1 + n ≡ line + suc n = omega arith in
    ap (λ a. behind line a (λ next. script_from (line + 1) next (with_empty n lines))) (empty_line line r) ∙ (empty_lines n (line + 1) r lines ∙ ap (λ k. script_from k r lines) count)

-- what is said behind empty lines and the next one
next : (r : Reading) (line : ℕ) (rest : Text) (n : ℕ) (text after : Text) (at : ℕ) (said : Result (List Statement) ParseFault) (answer : Result Reading Flaw) → ReadSoFar r line rest said → lines_of rest ≡ with_empty n (text ∷ lines_of after) → at ≡ line + (n + 1) → with_line at text r ≡ answer → said ≡ behind at answer (λ more. script_from (at + 1) more (lines_of after))
next r line rest n text after at said answer so_far cut place is =
    let count : line + 1 + n ≡ at = omega (arith, place) in
    so_far.script ∙ (ap (script_from (line + 1) r) cut ∙ (empty_lines n (line + 1) r (text ∷ lines_of after) ∙ (ap (λ k. script_from k r (text ∷ lines_of after)) count ∙ ap (λ a. behind at a (λ more. script_from (at + 1) more (lines_of after))) is)))

-- the next line is read
pub read_more : (r : Reading) (line : ℕ) (rest : Text) (n : ℕ) (text after : Text) (at : ℕ) (said : Result (List Statement) ParseFault) (more : Reading) → ReadSoFar r line rest said → lines_of rest ≡ with_empty n (text ∷ lines_of after) → at ≡ line + (n + 1) → with_line at text r ≡ Ok more → ReadSoFar more at after said
read_more r line rest n text after at said more so_far cut place is = record { script = next r line rest n text after at said (Ok more) so_far cut place is }

-- the next line is faulty, or memory ran out
pub read_stop : (r : Reading) (line : ℕ) (rest : Text) (n : ℕ) (text after : Text) (at : ℕ) (said : Result (List Statement) ParseFault) (why : Stop) → ReadSoFar r line rest said → lines_of rest ≡ with_empty n (text ∷ lines_of after) → at ≡ line + (n + 1) → Fails why (with_line at text r) → Stops said (stop_at at why)
read_stop r line rest n text after at said (stop.Flaw flaw) so_far cut place is = next r line rest n text after at said (Err flaw) so_far cut place is
read_stop r line rest n text after at said stop.NoMemory so_far cut place is = tt

-- there are no further lines but empty ones
pub read_done : (r : Reading) (line : ℕ) (rest : Text) (said : Result (List Statement) ParseFault) → ReadSoFar r line rest said → AreEmpty (lines_of rest) → closed r.statements r.standing ≡ said
read_done r line rest said so_far none =
    sym (so_far.script ∙ (ap (script_from (line + 1) r) none.1 ∙ empty_lines none.0 (line + 1) r []))
