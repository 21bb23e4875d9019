-- What each status says of the bytes that were read and written, and of the holder.
use Rattle.std.specs.Prelude.{◌≡◌, ◌≢◌, ℕ, ◌+◌, ◌^◌, ◌≤◌, ◌⊎◌, Bool, List, [], ◌++◌, length, ⊤, Option, Some, None, Ok as Right, Err as Wrong}
use Rattle.std.specs.Io.KnownBytes.{Consumes, Appends, IsAtEnd}
use Rattle.cow_model.specs.Lexis.{Text}
use Rattle.cow_model.specs.Fronts.{IsFrontOf}
use Rattle.cow_model.specs.Atoms.{IsBareBlock}
use Rattle.cow_model.specs.Literals.{is_text}
use Rattle.cow_model.specs.Parse.{script_of}
use Rattle.cow_model.specs.Purse.{Purse, whole}
use Rattle.cow_model.specs.Run.{text_of, bound, least}
use Rattle.cow_model.specs.declared.fault.ParseFault.{ParseFault}
use Rattle.cow_model.specs.declared.fault.ParseFault.TheVariants as fault
use Rattle.cow_model.specs.declared.shape.Shape.{Shape}
use Rattle.cow_model.specs.declared.statement.Statement.{Statement}
use Rattle.cow_model.specs.Env.{start}
use Rattle.cow_views.specs.Asks.{asks_from, raised_by}
use Rattle.cow_tasks.specs.Blocks.{unbuilt_line}
use Rattle.cow_run.specs.Input.{max_bytes}
use Rattle.cow_run.specs.Lines.{usage_text, not_built_text, fault_text, census_if}
use Rattle.cow_run.specs.declared.status.Status.{Status}
use Rattle.cow_run.specs.declared.status.Status.TheVariants.{Ok, Usage, Script, ReadFault, WriteFault, NoMemory, Leak, NotYet}

-- the units of a stock
abbrev pub stock_units : ℕ
stock_units = 2 ^ 62

-- the exit status of the process
abbrev pub code_of : Status → ℕ
code_of Ok = 0
code_of Usage = 2
code_of (Script why) = 3
code_of ReadFault = 4
code_of WriteFault = 5
code_of NoMemory = 6
code_of (Leak spare stock) = 7
code_of (NotYet line) = 9

-- the fault of an input of which byte 1,048,577 was read
abbrev pub too_long : ParseFault
too_long = fault.Limit 0 (max_bytes + 1) max_bytes

-- the bytes are these statements
abbrev pub IsScript : Text → List Statement → Type 0
IsScript bytes ss = (length bytes ≤ max_bytes) × (script_of bytes ≡ Right ss)

-- the bytes are these statements, and all of them are built
abbrev pub IsBuiltScript : Text → List Statement → Type 0
IsBuiltScript bytes ss = IsScript bytes ss × (unbuilt_line ss ≡ None)

-- the input is too long, or all of it has this fault
abbrev pub IsFault : Type 0 → Text → ParseFault → Type 0
IsFault ended read why = ((why ≡ too_long) × (length read ≡ max_bytes + 1)) ⊎ (ended × (length read ≤ max_bytes) × (script_of read ≡ Wrong why))

-- all of the input is a script, of which this line is the first that isn't built
abbrev pub IsNotBuilt : Type 0 → Text → ℕ → Type 0
IsNotBuilt ended read line = ended × ((ss : List Statement) × IsScript read ss × (unbuilt_line ss ≡ Some line))

-- a line that is written whole, unless the sink fails
abbrev pub IsLine : Type 0 → Text → Text → Type 0
IsLine sink_failed written text = (written ≡ text) ⊎ (sink_failed × IsFrontOf written text)

-- the rules that a run was lent: their shapes, and how often each had been asked before it and after it
pub record Lent : Type 0 where
  pub shapes : List Shape
  pub asked : List ℕ
  pub asked_after : List ℕ

-- these rules
abbrev pub lent : List Shape → List ℕ → List ℕ → Lent
lent shapes asked after = record { shapes = shapes; asked = asked; asked_after = after }

-- all that a run writes with rules of these shapes: what the script prints, and the census
abbrev pub whole_text : Bool → ℕ → List Shape → List Statement → Text
whole_text census copied shapes ss = text_of ss shapes ++ census_if census copied (bound ss shapes)

-- all of the input was read, and is a built script of which this holds
abbrev pub OfScript : (ended : Type 0) → Text → (List Statement → Type 0) → Type 0
OfScript ended read holds = ended × ((ss : List Statement) × IsBuiltScript read ss × holds ss)

-- all that a run of these statements writes was written; no fewer items were copied than the script has to make, and no more than the sharing rule allows; and each rule was asked as often as its lazy statements say
pub record HasRun (census : Bool) (text : Text) (rules : Lent) (h : Purse) (ss : List Statement) : Type 0 where
  pub written : text ≡ whole_text census h.copied rules.shapes ss
  pub least : least ss rules.shapes ≤ h.copied
  pub most : h.copied ≤ bound ss rules.shapes
  pub asked : rules.asked_after ≡ raised_by (λ k. asks_from start rules.shapes k ss) rules.asked

-- a front of what a run of these statements writes was written, and no more items were copied than the sharing rule allows
pub record HasRunInPart (census : Bool) (text : Text) (rules : Lent) (h : Purse) (ss : List Statement) : Type 0 where
  pub written : IsFrontOf text (whole_text census h.copied rules.shapes ss)
  pub most : h.copied ≤ bound ss rules.shapes

-- a script that no text is in, and that makes no tree
abbrev pub IsBareScript : List Statement → Type 0
IsBareScript ss = IsBareBlock is_text ss

-- a run to the end, of a script that isn't bare
abbrev pub HasRunCounted : Bool → Text → Lent → Purse → List Statement → Type 0
HasRunCounted census text rules h ss = HasRun census text rules h ss × ¬ IsBareScript ss

-- not all units of the stock came back
abbrev pub Leaks : ℕ → ℕ → Purse → Type 0
Leaks spare stock h = (spare ≡ h.spare) × (stock ≡ stock_units) × (spare ≢ stock)

-- what was read and written at each status, where `ended` says that the source was read to its end, and h is the holder afterwards
abbrev pub Says : (ended sink_failed : Type 0) → Bool → Text → Text → Lent → Purse → Status → Type 0
Says ended sink_failed census read written rules h Ok = OfScript ended read (HasRun census written rules h) × (h.spare ≡ stock_units)
Says ended sink_failed census read written rules h (Leak spare stock) = OfScript ended read (HasRunCounted census written rules h) × Leaks spare stock h
Says ended sink_failed census read written rules h Usage = (read ≡ []) × IsLine sink_failed written usage_text × (h ≡ whole)
Says ended sink_failed census read written rules h (Script why) = IsFault ended read why × IsLine sink_failed written (fault_text why) × (h ≡ whole)
Says ended sink_failed census read written rules h ReadFault = (length read ≤ max_bytes) × (written ≡ []) × (h ≡ whole)
Says ended sink_failed census read written rules h WriteFault = OfScript ended read (HasRunInPart census written rules h)
Says ended sink_failed census read written rules h NoMemory = ((written ≡ []) × (h ≡ whole)) ⊎ OfScript ended read (HasRunInPart census written rules h)
Says ended sink_failed census read written rules h (NotYet line) = IsNotBuilt ended read line × IsLine sink_failed written (not_built_text line) × (h ≡ whole)

-- what was read of the source and written to the sink is what the status says
pub record Answers (left_before left_after held_before held_after : Option Text) (sink_failed : Type 0) (census : Bool) (rules : Lent) (h : Purse) (status : Status) : Type 0 where
  pub read : Text
  pub written : Text
  pub consumed : Consumes left_before left_after read
  pub appended : Appends held_before held_after written
  pub says : Says (IsAtEnd left_after) sink_failed census read written rules h status

-- the status tells that a run was done; a leak, only of a script that isn't bare
abbrev pub IsDone : List Statement → Status → Type 0
IsDone ss Ok = ⊤
IsDone ss (Leak spare stock) = ¬ IsBareScript ss
IsDone ss status = ⊥

-- a built script that stands in the source is run to its end, unless a device fails or memory runs out
abbrev pub RunsWhole : Option Text → Option Text → Option Text → Type 0 → Bool → List Shape → Purse → Status → Type 0
RunsWhole left held_before held_after failed census shapes h status =
    (bytes : Text) (ss : List Statement) → left ≡ Some bytes → IsBuiltScript bytes ss → ¬ failed
    → (status ≡ NoMemory) ⊎ (IsDone ss status × Appends held_before held_after (whole_text census h.copied shapes ss))
