-- What the parts of a run do.
use Rattle.std.specs.Prelude.{◌≡◌, ◌^◌, ◌≤◌, Bool, List, All, Option, Some, None, ⊤}
use Rattle.std.specs.Io.KnownBytes.{Appends}
use Rattle.cow_model.specs.Lexis.{Text}
use Rattle.cow_model.specs.Purse.{Purse, whole}
use Rattle.cow_model.specs.declared.statement.Statement.{Statement, out-Statement}
use Rattle.cow_tasks.specs.Blocks.{IsRunnableLayer, count_in, unbuilt_line}
use Rattle.cow_run.specs.Answer.{stock_units, Lent, HasRun, HasRunInPart, HasRunCounted, Leaks, IsLine, Says}
use Rattle.cow_run.specs.Lines.{not_built_text}
use Rattle.cow_run.specs.declared.status.Status.{Status}
use Rattle.cow_run.specs.declared.status.Status.TheVariants.{Ok, WriteFault, NoMemory, Leak, NotYet}

-- what every script that was read has: where all is built its statements can be run, and there are few, those of tasks among them
pub record IsRead (ss : List Statement) : Type 0 where
  pub runs : unbuilt_line ss ≡ None → All (λ s. IsRunnableLayer (out-Statement s)) ss
  pub few : count_in ss ≤ 2 ^ 21

-- whether all units came back
abbrev pub SaysUnits : Purse → Status → Type 0
SaysUnits h Ok = h.spare ≡ stock_units
SaysUnits h (Leak spare stock) = Leaks spare stock h
SaysUnits h status = ⊥

-- these statements are built, and this holds of them
abbrev pub OfBuilt : List Statement → (List Statement → Type 0) → Type 0
OfBuilt ss holds = (unbuilt_line ss ≡ None) × holds ss

-- what was written at each status once statements were read
abbrev pub SaysOf : Type 0 → Bool → Lent → List Statement → Text → Purse → Status → Type 0
SaysOf sink_failed census rules ss written h Ok = OfBuilt ss (HasRun census written rules h) × (h.spare ≡ stock_units)
SaysOf sink_failed census rules ss written h (Leak spare stock) = OfBuilt ss (HasRunCounted census written rules h) × Leaks spare stock h
SaysOf sink_failed census rules ss written h WriteFault = OfBuilt ss (HasRunInPart census written rules h)
SaysOf sink_failed census rules ss written h NoMemory = OfBuilt ss (HasRunInPart census written rules h)
SaysOf sink_failed census rules ss written h (NotYet line) = (unbuilt_line ss ≡ Some line) × IsLine sink_failed written (not_built_text line) × (h ≡ whole)
SaysOf sink_failed census rules ss written h status = ⊥

-- what was written to the sink of a run of these statements is what the status says
pub record StatementsAnswered (before after : Option Text) (sink_failed : Type 0) (census : Bool) (rules : Lent) (ss : List Statement) (h : Purse) (status : Status) : Type 0 where
  pub written : Text
  pub appended : Appends before after written
  pub says : SaysOf sink_failed census rules ss written h status

-- what was written to the sink once these bytes were read to their end is what the status says
pub record BytesAnswered (before after : Option Text) (sink_failed : Type 0) (census : Bool) (rules : Lent) (bytes : Text) (h : Purse) (status : Status) : Type 0 where
  pub written : Text
  pub appended : Appends before after written
  pub says : Says ⊤ sink_failed census bytes written rules h status
