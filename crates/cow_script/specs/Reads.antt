-- What a script is read as.
use Rattle.std.specs.Prelude.{◌≡◌, ℕ, List, [], ◌∷◌, Result, Ok, Err, ⊤}
use Rattle.std.specs.Borrow.{Bor}
use Rattle.cow_model.specs.declared.fault.Flaw.{Flaw}
use Rattle.cow_model.specs.declared.fault.Flaw.TheVariants.{BadWord}
use Rattle.cow_model.specs.declared.fault.ParseFault.{ParseFault}
use Rattle.cow_model.specs.declared.statement.Script.{Script}
use Rattle.cow_model.specs.declared.statement.Statement.{Statement}
use Rattle.cow_model.specs.Lexis.{Text}
use Rattle.cow_model.specs.Parse.{fault_at}
use Rattle.cow_lexis.specs.declared.stop.Stop.{Stop}
use Rattle.cow_lexis.specs.declared.stop.Stop.TheVariants as stop
use Rattle.cow_script.specs.declared.script.ParseStop.{ParseStop}
use Rattle.cow_script.specs.declared.script.ParseStop.TheVariants as parse_stop

-- the bytes are no script: they have this fault, or memory ran out
abbrev pub Stops : Result (List Statement) ParseFault → ParseStop → Type 0
Stops said (parse_stop.Fault fault) = said ≡ Err fault
Stops said parse_stop.NoMemory = ⊤

-- the statements that the bytes are, or the reason that there are none
abbrev pub Parses : Result (List Statement) ParseFault → Result Script ParseStop → Type 0
Parses said (Ok script) = said ≡ Ok script.statements
Parses said (Err why) = Stops said why

-- the next token was taken, unless there was none
abbrev pub Takes : List Text → Result (Bor Text) Flaw → List Text → Type 0
Takes tokens (Ok token) left = tokens ≡ token.now ∷ left
Takes tokens (Err flaw) left = (tokens ≡ []) × (left ≡ []) × (flaw ≡ BadWord)

-- why a script ends at this line
abbrev pub stop_at : ℕ → Stop → ParseStop
stop_at line (stop.Flaw flaw) = parse_stop.Fault (fault_at line flaw)
stop_at line stop.NoMemory = parse_stop.NoMemory
